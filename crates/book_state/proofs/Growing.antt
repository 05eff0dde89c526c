-- A log with one entry more, and a chain with one link more.
use Rattle.std.proofs.Common.{◌≡◌, ◌≢◌, ◌≤◌, ℕ, zero, suc, ◌==◌, Bool, true, false, cond, ◌&&◌, Option, option_map, List, [], ◌∷◌, ◌++◌, slice_get, length, refl, ap, sym, ◌∙◌, subst, arith, inl, inr, append_assoc, append-nil}
use Rattle.std.specs.List.{list_all}
use Rattle.std.specs.Option.{option_map_or}
use Rattle.std.proofs.lemmas.Bool.Decides.{Decides-eqb}
use Rattle.std.proofs.lemmas.List.Elements.{All-head, All-tail}
use Rattle.stat_defs.specs.declared.ids.Kind.TheVariants as kind
use Rattle.stat_defs.specs.declared.ids.Mode.TheVariants.{Uninit}
use Rattle.stat_defs.specs.declared.events.Key.{Key}
use Rattle.stat_defs.specs.declared.events.Event.{Event}
use Rattle.stat_defs.specs.declared.events.Event.TheVariants as event
use Rattle.stat_defs.specs.declared.history.Verdict.{Verdict}
use Rattle.stat_defs.specs.declared.history.Verdict.TheVariants as verdict
use Rattle.stat_defs.specs.Keys.{held_under}
use Rattle.stat_defs.specs.declared.history.Call.{Call}
use Rattle.stat_defs.specs.declared.history.Call.TheVariants as call
use Rattle.stat_defs.specs.declared.history.Reply.{Reply}
use Rattle.stat_defs.specs.declared.history.Reply.TheVariants as reply
use Rattle.stat_defs.specs.declared.history.Entry.{Entry}
use Rattle.stat_defs.specs.declared.configs.ScopeSpec.{ScopeSpec}
use Rattle.book_state.specs.State.{NameRules, State, Seat, seat_of}
use Rattle.book_state.specs.Step.{effect, Allowed, change_at, on_seat, on_metric, found, made, hold, acknowledged, ended}
use Rattle.book_state.specs.Finding.{scope_of}
use Rattle.book_state.specs.Log.{empty, openings, fits_seat, replay_from, replay, Run, Legal, held_by}
use Rattle.book_state.specs.Follows.{Own, own, key_in, tag_of, held_verdict, Finds, Makes, MakesAcked, Applied, AreOfEvents, FollowsSoFar, Follows, after_all, state_after, entries_of}
use Rattle.book_state.specs.Laws.{AreOfOthers, own_end, own_entry}
use Rattle.book_state.proofs.Lists.{length-change_at, true_false}

pub same_seats : (s t : State) (seat : ℕ) → s.seats ≡ t.seats → seat_of s seat ≡ seat_of t seat
same_seats s t zero same = refl
same_seats s t (suc at) same = ap (λ (seats : List Seat). slice_get seats at) same

module _ (rules : NameRules) where
  -- the replay of a log with more entries
  pub replayed_on : (s : State) (log more : List Entry) → replay_from rules s (log ++ more) ≡ replay_from rules (replay_from rules s log) more
  replayed_on s [] more = refl
  replayed_on s (x ∷ log) more = replayed_on (effect rules x.seat x.call x.reply s) log more

  pub replayed : (workers : ℕ) (log : List Entry) (e : Entry) → replay rules workers (log ++ e ∷ []) ≡ effect rules e.seat e.call e.reply (replay rules workers log)
  replayed workers log e = replayed_on (empty workers) log (e ∷ [])

  pub runs_on : (s : State) (log : List Entry) (e : Entry) → Run rules s log → Allowed rules e.seat e.call e.reply (replay_from rules s log) → Run rules s (log ++ e ∷ [])
  runs_on s [] e run may = (may, tt)
  runs_on s (x ∷ log) e run may = (run.0, runs_on (effect rules x.seat x.call x.reply s) log e run.1 may)

  all_on : (p : Entry → Bool) (log : List Entry) (e : Entry) → list_all p log ≡ true → p e ≡ true → list_all p (log ++ e ∷ []) ≡ true
  all_on p [] e all this = rw this refl
  all_on p (x ∷ log) e all this = all_step (p x) (list_all p log) (list_all p (log ++ e ∷ [])) all (λ rest. all_on p log e rest this) where
    all_step : (a b c : Bool) → (a && b) ≡ true → (b ≡ true → c ≡ true) → (a && c) ≡ true
    all_step true b c both rest = rest both
    all_step false b c both rest = both

  pub legal_on : (scopes : List ScopeSpec) (workers : ℕ) (log : List Entry) (e : Entry) → Legal rules scopes workers log → fits_seat workers e ≡ true
      → Allowed rules e.seat e.call e.reply (replay rules workers log) → Legal rules scopes workers (log ++ e ∷ [])
  legal_on scopes workers log e legal fits may = record {
    rest = legal.rest ++ e ∷ [];
    begins = ap (λ (l : List Entry). l ++ e ∷ []) legal.begins ∙ append_assoc (openings 0 scopes) legal.rest (e ∷ []);
    seats = all_on (fits_seat workers) legal.rest e legal.seats fits;
    steps = runs_on (empty workers) log e legal.steps may;
  }

  other_place : (f : Seat → Seat) (i j : ℕ) (seats : List Seat) → j ≢ i → slice_get (change_at f i seats) j ≡ slice_get seats j
  other_place f i j [] other = refl
  other_place f zero zero (x ∷ seats) other = absurd (other refl)
  other_place f zero (suc j) (x ∷ seats) other = refl
  other_place f (suc i) zero (x ∷ seats) other = refl
  other_place f (suc i) (suc j) (x ∷ seats) other = other_place f i j seats (λ e. other (ap suc e))

  pub on_other : (f : Seat → Seat) (by seat : ℕ) (s : State) → seat ≢ by → seat_of (on_seat f by s) seat ≡ seat_of s seat
  on_other f zero seat s other = refl
  on_other f (suc i) zero s other = refl
  on_other f (suc i) (suc j) s other = other_place f i j s.seats (λ e. other (ap suc e))

  other_seat : (s : State) (seat by : ℕ) (c : Call) (r : Reply) → seat ≢ by → seat_of (effect rules by c r s) seat ≡ seat_of s seat
  other_seat s seat by (call.OpenScope label prefix) (reply.Opened id) other = same_seats (effect rules by (call.OpenScope label prefix) (reply.Opened id) s) s seat refl
  other_seat s seat by (call.Release label) (reply.Released id) other = same_seats (effect rules by (call.Release label) (reply.Released id) s) s seat refl
  other_seat s seat by (call.Find key) (reply.Made id numbers) other =
      let more : State = record s { metrics = s.metrics ++ made rules s key numbers ∷ [] } in on_other _ by seat more other ∙ same_seats more s seat refl
  other_seat s seat by (call.Find key) (reply.Found id) other =
      let live : State = on_metric (found (scope_of s key) key.mode) id.0 s in on_other _ by seat live other ∙ same_seats live s seat refl
  other_seat s seat by (call.Find key) reply.Rejected other = on_other _ by seat s other
  other_seat s seat by (call.SetText id text) reply.TextSet other = same_seats (effect rules by (call.SetText id text) reply.TextSet s) s seat refl
  other_seat s seat by call.Ack (reply.Acked tag) other = on_other _ by seat s other
  other_seat s seat by call.Sweep (reply.Swept n) other = same_seats (effect rules by call.Sweep (reply.Swept n) s) s seat refl
  other_seat s seat by call.End reply.Ended other = on_other _ by seat s other
  other_seat s seat by _ _ other = refl

  seats_of : (f : Seat → Seat) (by : ℕ) (s : State) → length (on_seat f by s).seats ≡ length s.seats
  seats_of f zero s = refl
  seats_of f (suc at) s = length-change_at f at s.seats

  -- the number of seats stays
  pub seats_stay : (by : ℕ) (c : Call) (r : Reply) (s : State) → length (effect rules by c r s).seats ≡ length s.seats
  seats_stay by (call.OpenScope label prefix) (reply.Opened id) s = refl
  seats_stay by (call.Release label) (reply.Released id) s = refl
  seats_stay by (call.Find key) (reply.Made id numbers) s = seats_of _ by (record s { metrics = s.metrics ++ made rules s key numbers ∷ [] })
  seats_stay by (call.Find key) (reply.Found id) s = seats_of _ by (on_metric (found (scope_of s key) key.mode) id.0 s)
  seats_stay by (call.Find key) reply.Rejected s = seats_of _ by s
  seats_stay by (call.SetText id text) reply.TextSet s = refl
  seats_stay by call.Ack (reply.Acked tag) s = seats_of _ by s
  seats_stay by call.Sweep (reply.Swept n) s = refl
  seats_stay by call.End reply.Ended s = seats_of _ by s
  seats_stay by _ _ s = refl

  pub left_seat : (s : State) (seat : ℕ) (e : Entry) → seat ≢ e.seat → seat_of (effect rules e.seat e.call e.reply s) seat ≡ seat_of s seat
  left_seat s seat e other = other_seat s seat e.seat e.call e.reply other

  pub left_held : (workers seat : ℕ) (log : List Entry) (e : Entry) → seat ≢ e.seat → held_by rules workers seat (log ++ e ∷ []) ≡ held_by rules workers seat log
  left_held workers seat log e other =
      ap (λ o. option_map_or (λ (row : Seat). row.held) o [])
      (ap (λ (s : State). seat_of s seat) (replayed workers log e) ∙ left_seat (replay rules workers log) seat e other)

  pub releases_of : (f : Seat → Seat) (by : ℕ) (s : State) → (on_seat f by s).releases ≡ s.releases
  releases_of f zero s = refl
  releases_of f (suc at) s = refl

  -- there are no fewer releases after an entry
  pub releases_grow : (by : ℕ) (c : Call) (r : Reply) (s : State) → s.releases ≤ (effect rules by c r s).releases
  releases_grow by (call.OpenScope label prefix) (reply.Opened id) s = omega arith
  releases_grow by (call.Release label) (reply.Released id) s = omega arith
  releases_grow by (call.Find key) (reply.Made id numbers) s =
      let e = releases_of (hold key (scope_of s key) (verdict.Accepted id)) by (record s { metrics = s.metrics ++ made rules s key numbers ∷ [] }) in omega (arith, e)
  releases_grow by (call.Find key) (reply.Found id) s =
      let e = releases_of (hold key (scope_of s key) (verdict.Accepted id)) by (on_metric (found (scope_of s key) key.mode) id.0 s) in omega (arith, e)
  releases_grow by (call.Find key) reply.Rejected s = let e = releases_of (hold key (scope_of s key) verdict.Rejected) by s in omega (arith, e)
  releases_grow by (call.SetText id text) reply.TextSet s = omega arith
  releases_grow by call.Ack (reply.Acked tag) s = let e = releases_of (acknowledged s.scopes tag) by s in omega (arith, e)
  releases_grow by call.Sweep (reply.Swept n) s = omega arith
  releases_grow by call.End reply.Ended s = let e = releases_of ended by s in omega (arith, e)
  releases_grow by _ _ s = omega arith

  -- what other seats do
  pub left_seats : (s : State) (seat : ℕ) (more : List Entry) → AreOfOthers seat more → seat_of (replay_from rules s more) seat ≡ seat_of s seat
  left_seats s seat [] others = refl
  left_seats s seat (e ∷ more) others =
      left_seats (effect rules e.seat e.call e.reply s) seat more (All-tail (λ entry. seat ≢ entry.seat) e more others)
      ∙ left_seat s seat e (All-head (λ entry. seat ≢ entry.seat) e more others)

  pub left_held_all : (workers seat : ℕ) (log more : List Entry) → AreOfOthers seat more → held_by rules workers seat (log ++ more) ≡ held_by rules workers seat log
  left_held_all workers seat log more others =
      ap (λ o. option_map_or (λ (row : Seat). row.held) o [])
      (ap (λ (s : State). seat_of s seat) (replayed_on (empty workers) log more) ∙ left_seats (replay rules workers log) seat more others)

  not_same : (a b : ℕ) → a ≢ b → (b == a) ≡ false
  not_same a b other = by_case (b == a) refl where
    by_case : (t : Bool) → (b == a) ≡ t → t ≡ false
    by_case true e = absurd (other (sym ((Decides-eqb b a).0 e)))
    by_case false e = refl

  pub none_own : (s : State) (seat : ℕ) (more : List Entry) → AreOfOthers seat more → own rules seat s more ≡ []
  none_own s seat [] others = refl
  none_own s seat (e ∷ more) others =
      let rest = none_own (effect rules e.seat e.call e.reply s) seat more (All-tail (λ entry. seat ≢ entry.seat) e more others) in
      ap (λ (t : Bool). cond t (own_entry rules s e ∷ own rules seat (own_entry rules s e).after more) (own rules seat (own_entry rules s e).after more))
      (not_same seat e.seat (All-head (λ entry. seat ≢ entry.seat) e more others))
      ∙ rest

  pub own_more : (s : State) (seat : ℕ) (log more : List Entry) → own rules seat s (log ++ more) ≡ own rules seat s log ++ own rules seat (replay_from rules s log) more
  own_more s seat [] more = refl
  own_more s seat (x ∷ log) more = own_step (x.seat == seat) _ _ _ _ (own_more (effect rules x.seat x.call x.reply s) seat log more) where
    own_step : (b : Bool) (o : Own) (all some more : List Own) → all ≡ some ++ more → cond b (o ∷ all) all ≡ cond b (o ∷ some) some ++ more
    own_step true o all some more e = ap (λ (l : List Own). o ∷ l) e
    own_step false o all some more e = e

  pub own_one : (s : State) (e : Entry) → own rules e.seat s (e ∷ []) ≡ own_entry rules s e ∷ []
  own_one s e = ap (λ (t : Bool). cond t (own_entry rules s e ∷ []) []) ((Decides-eqb e.seat e.seat).1 refl)

  -- the seat stands after its own last entry as after the whole log
  abbrev IsAtEnd : ℕ → State → State → Type 0
  IsAtEnd seat s t = (seat_of s seat ≡ seat_of t seat) × (s.releases ≤ t.releases)

  ends_with : (seat : ℕ) (s t : State) (log : List Entry) → IsAtEnd seat s t → IsAtEnd seat (after_all s (own rules seat t log)) (replay_from rules t log)
  ends_with seat s t [] is = is
  ends_with seat s t (x ∷ log) is = end_step (x.seat == seat) refl (ends_with seat next next log (refl, omega arith))
      (λ other. ends_with seat s next log (is.0 ∙ sym (left_seat t seat x other), (let more = releases_grow x.seat x.call x.reply t in let was = is.1 in omega (arith, more, was)))) where
        next : State
        next = effect rules x.seat x.call x.reply t

        end_step : (b : Bool) → (x.seat == seat) ≡ b → IsAtEnd seat (after_all next (own rules seat next log)) (replay_from rules next log)
            → (seat ≢ x.seat → IsAtEnd seat (after_all s (own rules seat next log)) (replay_from rules next log))
            → IsAtEnd seat (after_all s (cond b (own_entry rules t x ∷ own rules seat next log) (own rules seat next log))) (replay_from rules next log)
        end_step true e here other = here
        end_step false e here other = other (λ same. true_false (sym ((Decides-eqb x.seat seat).1 (sym same)) ∙ e))

  pub own_ends : (workers seat : ℕ) (log : List Entry) → IsAtEnd seat (own_end rules workers seat log) (replay rules workers log)
  own_ends workers seat log = ends_with seat (empty workers) (empty workers) log (refl, omega arith)

after_both : (s : State) (xs ys : List Own) → after_all s (xs ++ ys) ≡ after_all (after_all s xs) ys
after_both s [] ys = refl
after_both s (x ∷ xs) ys = after_both x.after xs ys

chain_state : (s : State) (applied : List Applied) → state_after s applied ≡ after_all s (entries_of applied)
chain_state s [] = refl
chain_state s (a ∷ before) = ap (λ (t : State). after_all t a.made) (chain_state s before) ∙ sym (after_both s (entries_of before) a.made)

link_on : (workers seat : ℕ) (events : List Event) (verdicts : List Verdict) (entries : List Own) (e : Event) (v : Verdict) (made : List Own)
    → AreOfEvents workers seat events verdicts entries → MakesAcked seat (after_all (empty workers) entries) e v made
    → AreOfEvents workers seat (events ++ e ∷ []) (verdicts ++ v ∷ []) (entries ++ made)
link_on workers seat events verdicts entries e v made so_far more = record {
  applied = record { event = e; verdict = v; made = made } ∷ so_far.applied;
  chain = (
    so_far.chain,
    subst (λ (s : State). MakesAcked seat s e v made)
        (ap (λ (l : List Own). after_all (empty workers) l) so_far.entries_are ∙ sym (chain_state (empty workers) so_far.applied)) more,
  );
  events_are = ap (λ (l : List Event). l ++ e ∷ []) so_far.events_are;
  verdicts_are = ap (λ (l : List Verdict). l ++ v ∷ []) so_far.verdicts_are;
  entries_are = ap (λ (l : List Own). l ++ made) so_far.entries_are;
}

finds_alike : (seat : ℕ) (s t : State) (key : Key) (e : Event) (v : Verdict) (made : List Own) → seat_of s seat ≡ seat_of t seat
    → Finds key e v (held_verdict s seat key) made → Finds key e v (held_verdict t seat key) made
finds_alike seat s t key e v made same finds =
    subst (λ (o : Option Seat). Finds key e v (option_map (λ h. h.verdict) (held_under key (option_map_or (λ (row : Seat). row.held) o []))) made) same finds

-- what an event makes hangs on the seat alone
makes_alike : (seat : ℕ) (s t : State) (e : Event) (v : Verdict) (made : List Own) → seat_of s seat ≡ seat_of t seat → Makes seat s e v made → Makes seat t e v made
makes_alike seat s t (event.OpenScope label prefix) v made same makes = makes
makes_alike seat s t (event.Release label) v made same makes = makes
makes_alike seat s t (event.Inc label name n) v made same makes = finds_alike seat s t (key_in label kind.Counter Uninit name) (event.Inc label name n) v made same makes
makes_alike seat s t (event.Gauge label name mode op n) v made same makes =
    finds_alike seat s t (key_in label kind.Gauge mode name) (event.Gauge label name mode op n) v made same makes
makes_alike seat s t (event.Rec label name n) v made same makes = finds_alike seat s t (key_in label kind.Histogram Uninit name) (event.Rec label name n) v made same makes
makes_alike seat s t (event.SetText label name text) v made same makes =
    finds_alike seat s t (key_in label kind.Text Uninit name) (event.SetText label name text) v made same makes

acked_alike : (seat : ℕ) (s t : State) (e : Event) (v : Verdict) (made : List Own) → seat_of s seat ≡ seat_of t seat → t.releases ≤ s.releases
    → MakesAcked seat s e v made → MakesAcked seat t e v made
acked_alike seat s t e v made same few (inl makes) =
    let tags : tag_of s seat ≡ tag_of t seat = ap (λ o. option_map_or (λ (row : Seat). row.tag) o 0) same in
    let due = makes.0 in
    inl (omega (arith, tags, due, few), makes_alike seat s t e v made same makes.1)
acked_alike seat s t e v made same few (inr acked) = inr acked

module _ (rules : NameRules) (workers seat : ℕ) where
  pub chain_none : (log : List Entry) → AreOfOthers seat log → FollowsSoFar rules workers seat [] [] log
  chain_none log others = record { applied = []; chain = tt; events_are = refl; verdicts_are = refl; entries_are = none_own rules (empty workers) seat log others }

  module _ (events : List Event) (verdicts : List Verdict) (log more : List Entry) where
    same_own : AreOfOthers seat more → own rules seat (empty workers) (log ++ more) ≡ own rules seat (empty workers) log
    same_own others =
        own_more rules (empty workers) seat log more
        ∙ (ap (λ (l : List Own). own rules seat (empty workers) log ++ l) (none_own rules (replay rules workers log) seat more others) ∙ append-nil (own rules seat (empty workers) log))

    pub chain_others : FollowsSoFar rules workers seat events verdicts log → AreOfOthers seat more → FollowsSoFar rules workers seat events verdicts (log ++ more)
    chain_others so_far others = subst (λ (l : List Own). AreOfEvents workers seat events verdicts l) (sym (same_own others)) so_far

    pub chain_event : (e : Event) (v : Verdict) → FollowsSoFar rules workers seat events verdicts log
        → MakesAcked seat (replay rules workers log) e v (own rules seat (replay rules workers log) more)
        → FollowsSoFar rules workers seat (events ++ e ∷ []) (verdicts ++ v ∷ []) (log ++ more)
    chain_event e v so_far makes =
        let made : List Own = own rules seat (replay rules workers log) more in
        let at = own_ends rules workers seat log in
        subst (λ (l : List Own). AreOfEvents workers seat (events ++ e ∷ []) (verdicts ++ v ∷ []) l) (sym (own_more rules (empty workers) seat log more))
        (link_on workers seat events verdicts (own rules seat (empty workers) log) e v made so_far
        (acked_alike seat (replay rules workers log) (own_end rules workers seat log) e v made (sym at.0) at.1 makes))

    pub chain_ended : (last : Own) → FollowsSoFar rules workers seat events verdicts log → own rules seat (replay rules workers log) more ≡ last ∷ [] → last.call ≡ call.End
        → Follows rules workers seat events verdicts (log ++ more)
    chain_ended last so_far made ends = record {
      entries = own rules seat (empty workers) log;
      of_events = so_far;
      last = last;
      ends = ends;
      own_are = own_more rules (empty workers) seat log more ∙ ap (λ (l : List Own). own rules seat (empty workers) log ++ l) made;
    }

    pub chain_left : Follows rules workers seat events verdicts log → AreOfOthers seat more → Follows rules workers seat events verdicts (log ++ more)
    chain_left follows others = record {
      entries = follows.entries;
      of_events = follows.of_events;
      last = follows.last;
      ends = follows.ends;
      own_are = same_own others ∙ follows.own_are;
    }
