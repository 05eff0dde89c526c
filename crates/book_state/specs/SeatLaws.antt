-- What a seat's own calls leave with it, and what every legal log keeps of its seats. This project's own.
use Rattle.std.specs.Prelude.{◌≡◌, ◌≤◌, ◌<◌, ℕ, ◌==◌, ◌&&◌, if◌then◌else◌, Bool, true, false, not, Some, None, IsNone}
use Rattle.std.specs.Prelude.{List, [], ◌∷◌, ◌++◌, filter, drop, All}
use Rattle.stat_defs.specs.Keys.{Held, held_under, HoldsOnce, is_through}
use Rattle.stat_defs.specs.declared.ids.Kind.TheVariants.{Text}
use Rattle.stat_defs.specs.declared.ids.MetricId.{MetricId}
use Rattle.stat_defs.specs.declared.ids.ScopeId.{ScopeId}
use Rattle.stat_defs.specs.declared.events.Key.{Key}
use Rattle.stat_defs.specs.declared.history.Verdict.{Verdict}
use Rattle.stat_defs.specs.declared.history.Verdict.TheVariants as verdict
use Rattle.stat_defs.specs.declared.history.Call.{Call}
use Rattle.stat_defs.specs.declared.history.Call.TheVariants as call
use Rattle.stat_defs.specs.declared.history.Reply.{Reply}
use Rattle.stat_defs.specs.declared.history.Reply.TheVariants as reply
use Rattle.stat_defs.specs.declared.history.Entry.{Entry}
use Rattle.stat_defs.specs.declared.configs.ScopeSpec.{ScopeSpec}
use Rattle.book_state.specs.State.{NameRules, Seat, State, seat_of, held_in}
use Rattle.book_state.specs.Finding.{scope_of}
use Rattle.book_state.specs.Step.{effect, hold, acknowledged, ended, is_live, Working, Works, holds_text}
use Rattle.book_state.specs.Log.{replay, Legal, held_by}
use Rattle.book_state.specs.Follows.{verdict_of, tag_of}
use Rattle.book_state.specs.Stored.{released_in}

-- a seat holds what was accepted or rejected, and no other verdict
abbrev pub is_held : Verdict → Bool
is_held (verdict.Accepted id) = true
is_held verdict.Rejected = true
is_held _ = false

-- how a seat stands after each of its own calls
pub record OwnCalls : Type 0 where
  pub find : (rules : NameRules) (s : State) (seat : ℕ) (row : Seat) (key : Key) (r : Reply) (v : Verdict)
      → seat_of s seat ≡ Some row → verdict_of r ≡ Some v
      → seat_of (effect rules seat (call.Find key) r s) seat
      ≡ Some (if is_held v then hold key (scope_of s key) v row else row)
  pub ack : (rules : NameRules) (s : State) (seat : ℕ) (row : Seat) (tag : ℕ) → seat_of s seat ≡ Some row
      → seat_of (effect rules seat call.Ack (reply.Acked tag) s) seat ≡ Some (acknowledged s.scopes tag row)
  pub ends : (rules : NameRules) (s : State) (seat : ℕ) (row : Seat) → seat_of s seat ≡ Some row
      → seat_of (effect rules seat call.End reply.Ended s) seat ≡ Some (ended row)
  -- the other calls leave it as it is
  pub opening : (rules : NameRules) (s : State) (seat : ℕ) (label prefix : List ℕ) (r : Reply)
      → seat_of (effect rules seat (call.OpenScope label prefix) r s) seat ≡ seat_of s seat
  pub release : (rules : NameRules) (s : State) (seat : ℕ) (label : List ℕ) (r : Reply)
      → seat_of (effect rules seat (call.Release label) r s) seat ≡ seat_of s seat
  pub text : (rules : NameRules) (s : State) (seat : ℕ) (id : MetricId) (text : List ℕ) (r : Reply)
      → seat_of (effect rules seat (call.SetText id text) r s) seat ≡ seat_of s seat

-- what a seat holds after its own call
pub record HeldAfter : Type 0 where
  -- one entry more, behind the others
  pub found : (rules : NameRules) (s : State) (seat : ℕ) (key : Key) (r : Reply) (v : Verdict)
      → Works s seat → verdict_of r ≡ Some v → is_held v ≡ true
      → held_in (effect rules seat (call.Find key) r s) seat ≡ held_in s seat
      ++ record { key = key; scope = scope_of s key; verdict = v } ∷ []
  -- a verdict that is not held leaves the entries
  pub passed : (rules : NameRules) (s : State) (seat : ℕ) (key : Key) (r : Reply) (v : Verdict)
      → verdict_of r ≡ Some v → is_held v ≡ false → held_in (effect rules seat (call.Find key) r s) seat
      ≡ held_in s seat
  -- the entries of live scopes
  pub acked : (rules : NameRules) (s : State) (seat tag : ℕ)
      → held_in (effect rules seat call.Ack (reply.Acked tag) s) seat
      ≡ filter (λ h. is_live s.scopes h.scope) (held_in s seat)
  -- none
  pub ended : (rules : NameRules) (s : State) (seat : ℕ) → held_in (effect rules seat call.End reply.Ended s) seat ≡ []

abbrev pub is_end : Call → Bool
is_end call.End = true
is_end _ = false

abbrev pub is_ack : Call → Bool
is_ack call.Ack = true
is_ack _ = false

abbrev pub is_release : Call → Bool
is_release (call.Release label) = true
is_release _ = false

-- what no call changes but one
pub record SeatStays : Type 0 where
  -- a seat may call until its own end
  pub works : (rules : NameRules) (s : State) (by seat : ℕ) (c : Call) (r : Reply) → Works s seat
      → (is_end c && by == seat) ≡ false
      → Works (effect rules by c r s) seat
  -- it keeps its tag until its own acknowledgement, which gives it a new one
  pub tags : (rules : NameRules) (s : State) (by seat : ℕ) (c : Call) (r : Reply) → (is_ack c && by == seat) ≡ false
      → tag_of (effect rules by c r s) seat ≡ tag_of s seat
  pub acked : (rules : NameRules) (s : State) (seat tag : ℕ) → Works s seat
      → tag_of (effect rules seat call.Ack (reply.Acked tag) s) seat ≡ tag
  -- there are as many releases until a release
  pub releases : (rules : NameRules) (s : State) (by : ℕ) (c : Call) (r : Reply) → is_release c ≡ false
      → (effect rules by c r s).releases ≡ s.releases

-- when a seat may call, by what it holds and its tag
pub record MayCall : Type 0 where
  pub find : (s : State) (seat : ℕ) (key : Key) → Works s seat → held_under key (held_in s seat) ≡ None
      → Working s seat (λ row. IsNone (held_under key row.held))
  pub ack : (s : State) (seat : ℕ) → Works s seat → tag_of s seat < s.releases
      → Working s seat (λ row. row.tag < s.releases)
  -- a text is set where it is held, and where it was found last
  pub text : (s : State) (seat : ℕ) (key : Key) (h : Held) (id : MetricId) → Works s seat
      → held_under key (held_in s seat) ≡ Some h
      → h.verdict ≡ verdict.Accepted id → key.kind ≡ Text → Working s seat (λ row. holds_text id.0 row ≡ true)
  pub text_found : (s : State) (seat : ℕ) (held : List Held) (one : Held) (id : MetricId) → Works s seat
      → held_in s seat ≡ held ++ one ∷ []
      → one.verdict ≡ verdict.Accepted id → one.key.kind ≡ Text → Working s seat (λ row. holds_text id.0 row ≡ true)

-- the scopes that were released since the seat's last acknowledgement
abbrev pub unacknowledged : NameRules → ℕ → ℕ → List Entry → List ScopeId
unacknowledged rules workers seat log = drop (tag_of (replay rules workers log) seat) (released_in log)

-- what is true of a seat after every legal log
abbrev pub OfSeats : (NameRules → ℕ → ℕ → List Entry → Type 0) → Type 0
OfSeats Is = (rules : NameRules) (scopes : List ScopeSpec) (workers seat : ℕ) (log : List Entry)
    → Legal rules scopes workers log → Is rules workers seat log

pub record LegalSeats : Type 0 where
  -- it has acknowledged no more releases than there were
  pub tags : OfSeats (λ rules workers seat log. tag_of
      (replay rules workers log) seat ≤ (replay rules workers log).releases)
  pub once : OfSeats (λ rules workers seat log. HoldsOnce (held_by rules workers seat log))
  -- of the scopes of what it holds, those are dead that it has not acknowledged
  pub dead : OfSeats (λ rules workers seat log.
      All (λ h. is_live (replay rules workers log).scopes h.scope
      ≡ not (is_through (unacknowledged rules workers seat log) h)) (held_by rules workers seat log))
