-- How logs grow, and what of them a seat finds in its own entries. This project's own.
use Rattle.std.specs.Prelude.{◌≡◌, ◌≢◌, ◌≤◌, ℕ, true, List, [], ◌∷◌, ◌++◌, All}
use Rattle.stat_defs.specs.declared.events.Event.{Event}
use Rattle.stat_defs.specs.declared.history.Verdict.{Verdict}
use Rattle.stat_defs.specs.declared.history.Call.TheVariants as call
use Rattle.stat_defs.specs.declared.history.Entry.{Entry}
use Rattle.stat_defs.specs.declared.configs.ScopeSpec.{ScopeSpec}
use Rattle.book_state.specs.State.{NameRules, State, seat_of}
use Rattle.book_state.specs.Step.{effect, Allowed}
use Rattle.book_state.specs.Log.{empty, fits_seat, replay_from, replay, Legal, held_by}
use Rattle.book_state.specs.Follows.{Own, own, MakesAcked, FollowsSoFar, Follows, after_all}

pub record LogGrows : Type 0 where
  pub replayed : (rules : NameRules) (workers : ℕ) (log : List Entry) (e : Entry)
      → replay rules workers (log ++ e ∷ []) ≡ effect rules e.seat e.call e.reply (replay rules workers log)
  pub legal : (rules : NameRules) (scopes : List ScopeSpec) (workers : ℕ) (log : List Entry) (e : Entry)
      → Legal rules scopes workers log → fits_seat workers e ≡ true
      → Allowed rules e.seat e.call e.reply (replay rules workers log)
      → Legal rules scopes workers (log ++ e ∷ [])

-- none of these entries is the seat's
abbrev pub AreOfOthers : ℕ → List Entry → Type 0
AreOfOthers seat entries = All (λ entry. seat ≢ entry.seat) entries

-- entries of other seats leave a seat with its tag and its end, and all that it holds
pub record OthersLeave : Type 0 where
  pub seats : (rules : NameRules) (s : State) (seat : ℕ) (more : List Entry) → AreOfOthers seat more
      → seat_of (replay_from rules s more) seat ≡ seat_of s seat
  pub held : (rules : NameRules) (workers seat : ℕ) (log more : List Entry) → AreOfOthers seat more
      → held_by rules workers seat (log ++ more) ≡ held_by rules workers seat log
  pub entries : (rules : NameRules) (s : State) (seat : ℕ) (more : List Entry) → AreOfOthers seat more
      → own rules seat s more ≡ []

-- the state after the seat's own last entry, and before all entries where it has none
abbrev pub own_end : NameRules → ℕ → ℕ → List Entry → State
own_end rules workers seat log = after_all (empty workers) (own rules seat (empty workers) log)

-- the seat stands there as after the whole log, and there were no more releases
pub record OwnEnds : Type 0 where
  pub seats : (rules : NameRules) (workers seat : ℕ) (log : List Entry) → seat_of (own_end rules workers seat log) seat
      ≡ seat_of (replay rules workers log) seat
  pub releases : (rules : NameRules) (workers seat : ℕ) (log : List Entry)
      → (own_end rules workers seat log).releases ≤ (replay rules workers log).releases

-- an entry of the seat from a state on
abbrev pub own_entry : NameRules → State → Entry → Own
own_entry rules s e = record { call = e.call; reply = e.reply; after = effect rules e.seat e.call e.reply s }

-- a seat's own entries in a log with more entries
pub record OwnGrow : Type 0 where
  pub more : (rules : NameRules) (s : State) (seat : ℕ) (log more : List Entry)
      → own rules seat s (log ++ more) ≡ own rules seat s log ++ own rules seat (replay_from rules s log) more
  pub one : (rules : NameRules) (s : State) (e : Entry) → own rules e.seat s (e ∷ []) ≡ own_entry rules s e ∷ []

pub record ChainGrows : Type 0 where
  -- before its first event the seat has no entry
  pub none : (rules : NameRules) (workers seat : ℕ) (log : List Entry) → AreOfOthers seat log
      → FollowsSoFar rules workers seat [] [] log
  -- entries of other seats are no event of it
  pub others : (rules : NameRules) (workers seat : ℕ) (events : List Event) (verdicts : List Verdict)
      (log more : List Entry)
      → FollowsSoFar rules workers seat events verdicts log → AreOfOthers seat more
      → FollowsSoFar rules workers seat events verdicts (log ++ more)
  -- an event makes the seat's own entries among those that were added
  pub events : (rules : NameRules) (workers seat : ℕ) (events : List Event) (verdicts : List Verdict)
      (log more : List Entry) (e : Event) (v : Verdict)
      → FollowsSoFar rules workers seat events verdicts log
      → MakesAcked seat (replay rules workers log) e v (own rules seat (replay rules workers log) more)
      → FollowsSoFar rules workers seat (events ++ e ∷ []) (verdicts ++ v ∷ []) (log ++ more)
  -- the last is an End
  pub ended : (rules : NameRules) (workers seat : ℕ) (events : List Event) (verdicts : List Verdict)
      (log more : List Entry) (last : Own)
      → FollowsSoFar rules workers seat events verdicts log → own rules seat (replay rules workers log) more ≡ last ∷ []
      → last.call ≡ call.End
      → Follows rules workers seat events verdicts (log ++ more)
  -- entries of other seats may stand behind it
  pub left : (rules : NameRules) (workers seat : ℕ) (events : List Event) (verdicts : List Verdict)
      (log more : List Entry)
      → Follows rules workers seat events verdicts log → AreOfOthers seat more
      → Follows rules workers seat events verdicts (log ++ more)
