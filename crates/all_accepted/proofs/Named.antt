-- Each accepted event of room files names the metric whose number it was given.
use Rattle.std.proofs.Common.{◌≡◌, ◌==◌, ◌&&◌, ◌≤◌, ℕ, zero, suc, cond, not, Bool, true, false, Option, None, Some, IsSome, List, [], ◌∷◌, ◌++◌, map, length, slice_get, append-nil, append_assoc, refl, ap, sym, ◌∙◌, subst, arith, inl, inr}
use Rattle.std.specs.Prelude.{option_map}
use Rattle.std.specs.Option.{option_map_or}
use Rattle.std.specs.List.{AllByRecursion, zip}
use Rattle.std.proofs.lemmas.List.{length-map}
use Rattle.stat_defs.specs.declared.events.Event.{Event}
use Rattle.stat_defs.specs.declared.events.Event.TheVariants as event
use Rattle.stat_defs.specs.declared.events.Key.{Key}
use Rattle.stat_defs.specs.declared.history.Call.{Call}
use Rattle.stat_defs.specs.declared.history.Call.TheVariants as call
use Rattle.stat_defs.specs.declared.history.Reply.{Reply}
use Rattle.stat_defs.specs.declared.history.Reply.TheVariants as reply
use Rattle.stat_defs.specs.declared.history.Entry.{Entry}
use Rattle.stat_defs.specs.declared.history.Verdict.{Verdict}
use Rattle.stat_defs.specs.declared.history.Verdict.TheVariants as verdict
use Rattle.stat_defs.specs.declared.ids.MetricId.{MetricId}
use Rattle.stat_defs.specs.declared.metrics.Metric.{Metric}
use Rattle.stat_defs.specs.Keys.{Held, held_under, same_key, same_text, same_kind}
use Rattle.book_state.specs.State.{Row, Seat, State, is_gone, live_scope, known, metrics_of, held_in}
use Rattle.book_state.specs.Finding.{Outcome, NoScope, Rejected, Known, NoRoom, OverLimit, New, outcome, first_case, scope_of, name_of, is_full, is_over_limit}
use Rattle.stat_defs.specs.declared.ids.ScopeId.{ScopeId}
use Rattle.book_state.specs.Step.{effect, Allowed, Tells, on_seat, on_metric, hold, acknowledged, ended, is_live, found as found_row, made as made_row}
use Rattle.book_state.specs.Log.{empty, openings, replay_from, replay, Run, Legal}
use Rattle.book_state.proofs.Growing.{replayed_on}
use Rattle.book_state.specs.Follows.{Own, own, verdict_of, held_verdict, event_key, Finds, Makes, MakesAcked, Applied, IsChain, events_of, entries_of, state_after, after_all, Follows}
use Rattle.book_state.proofs.Lists.{true_false, both, not_some, some_same, get_map, map_some, position_found, get_push_last}
use Rattle.stat_defs.specs.declared.reports.Report.{Report}
use Rattle.ledger.specs.Ledger.{RunPlan, RunLedger}
use Rattle.ledger.specs.Lists.{EachNumbered}
use Rattle.ledger.proofs.Lists.{nil_cons, tail_same}
use Rattle.ledger.proofs.WorkLists.{lengths}
use Rattle.ledger.specs.Work.{Work, events_in, verdicts_in, work_of, apart}
use Rattle.flush_view.specs.Output.{took_effect}
use Rattle.all_accepted.specs.Admitted.{NamedKind, key_named, named_by, named_at, is_given, names_it, IsAccepted, HasRoomForAll, AcceptedNamed, NumbersOfNames}
use Rattle.std.proofs.lemmas.Bool.{eqb-true, eqb-false}
use Rattle.all_accepted.proofs.InLists.{In, Once, all_parts, all_joined, all_changed, all_filtered}
use Rattle.all_accepted.proofs.States.{kind_same, text_same, IsSettledState, KeepsSettled, pair_of, pairs_in, same_kind_is, step_settled, new_is, shown_by, map_kept, map_pushed, none_swept}
use Rattle.all_accepted.proofs.Accepted.{text_is, key_is, told_of, told_events, told_verdicts, same_work, run_behind, opened_seats, behind_openings, own_behind, of_files, run_calls, each_right}

pub get_front : {X : Type 0} (xs ys : List X) (i : ℕ) (x : X) → slice_get xs i ≡ Some x → slice_get (xs ++ ys) i ≡ Some x
get_front [] ys i x e = absurd (not_some x e)
get_front (y ∷ xs) ys zero x e = e
get_front (y ∷ xs) ys (suc i) x e = get_front xs ys i x e

pub in_at : {X : Type 0} (xs : List X) (i : ℕ) (x : X) → slice_get xs i ≡ Some x → In xs x
in_at [] i x e = absurd (not_some x e)
in_at (y ∷ xs) zero x e = inl (some_same y x e)
in_at (y ∷ xs) (suc i) x e = inr (in_at xs i x e)

pub one_place : {X : Type 0} (xs : List X) (i j : ℕ) (x : X) → Once xs → slice_get xs i ≡ Some x → slice_get xs j ≡ Some x → i ≡ j
one_place [] i j x once e f = absurd (not_some x e)
one_place (y ∷ xs) zero zero x once e f = refl
one_place {X} (y ∷ xs) zero (suc j) x once e f = absurd (once.0 (subst (λ (z : X). In xs z) (sym (some_same y x e)) (in_at xs j x f)))
one_place {X} (y ∷ xs) (suc i) zero x once e f = absurd (once.0 (subst (λ (z : X). In xs z) (sym (some_same y x f)) (in_at xs i x e)))
one_place (y ∷ xs) (suc i) (suc j) x once e f = ap suc (one_place xs i j x once.1 e f)

pub itself : (n : NamedKind) → (same_kind n.0 n.0 && same_text n.1 n.1) ≡ true
itself n = ap (λ (t : Bool). t && same_text n.1 n.1) (kind_same n.0) ∙ text_same n.1

known_pair : (s : State) (key : Key) (id : ℕ) → known s key.kind (name_of s key) ≡ Some id → slice_get (pairs_in s) id ≡ Some (key.kind, name_of s key)
known_pair s key id is =
    let at = position_found (λ (m : Metric). not (is_gone m.life) && (same_kind key.kind m.kind && same_text (name_of s key) m.name)) 0 (metrics_of s) id is in
    let place : id ≡ at.0 = let e = at.2 in omega (arith, e) in
    let passes = both (not (is_gone at.1.life)) (same_kind key.kind at.1.kind && same_text (name_of s key) at.1.name) at.4 in
    let same = both (same_kind key.kind at.1.kind) (same_text (name_of s key) at.1.name) passes.1 in
    let kind = same_kind_is key.kind at.1.kind same.0 in
    let name = text_is (name_of s key) at.1.name same.1 in
    let row = map_some (λ (r : Row). r.metric) (slice_get s.metrics at.0) at.1 (sym (get_map (λ (r : Row). r.metric) s.metrics at.0) ∙ at.3) in
    let pair : ◌≡◌ {A = NamedKind} (pair_of row.0) (key.kind, name_of s key) =
    ap (λ (m : Metric). (m.kind, m.name)) (sym row.2) ∙ (λ i. (sym kind i, sym name i)) in
    ap (λ (k : ℕ). slice_get (pairs_in s) k) place ∙ get_map pair_of s.metrics at.0 ∙ ap (λ (o : Option Row). option_map pair_of o) row.1 ∙ ap (λ (n : NamedKind). Some n) pair

never_opened : (s : State) (key : Key) (o : Outcome) (given : ScopeId) → Tells s key o (reply.Opened given) → ⊥
never_opened s key NoScope given is = is
never_opened s key Rejected given is = is
never_opened s key (Known k) given is = is
never_opened s key NoRoom given is = is
never_opened s key OverLimit given is = is
never_opened s key New given is = is

never_released : (s : State) (key : Key) (o : Outcome) (given : ScopeId) → Tells s key o (reply.Released given) → ⊥
never_released s key NoScope given is = is
never_released s key Rejected given is = is
never_released s key (Known k) given is = is
never_released s key NoRoom given is = is
never_released s key OverLimit given is = is
never_released s key New given is = is

module _ (plan : RunPlan) (events : List (List Event)) (room : HasRoomForAll plan events) where
  abbrev IsSettled : State → Type 0
  IsSettled s = IsSettledState plan room.names room.few room.few_histograms s

  abbrev Keeps : Call → Type 0
  Keeps c = KeepsSettled plan room.names room.few room.few_histograms c

  -- the metric of this number is of the kind and name that the key means
  abbrev IsOf : List NamedKind → Key → MetricId → Type 0
  IsOf all key id = (slice_get all id.0 ≡ key_named plan key) × IsSome (key_named plan key)

  abbrev NamedAt : List NamedKind → Key → Verdict → Type 0
  NamedAt all key v = ((id : MetricId) → v ≡ verdict.Accepted id → IsOf all key id) × (took_effect v ≡ true → IsAccepted v)

  abbrev NamedSeats : List NamedKind → State → Type 0
  NamedSeats all s = AllByRecursion (λ (row : Seat). AllByRecursion (λ (h : Held). NamedAt all h.key h.verdict) row.held) s.seats

  seat_pairs : (f : Seat → Seat) (by : ℕ) (s : State) → pairs_in (on_seat f by s) ≡ pairs_in s
  seat_pairs f zero s = refl
  seat_pairs f (suc at) s = refl

  -- an entry adds a kind and a name at most
  abbrev Adds : State → State → Type 0
  Adds s t = (more : List NamedKind) × (pairs_in t ≡ pairs_in s ++ more)

  none_added : (s t : State) → pairs_in t ≡ pairs_in s → Adds s t
  none_added s t same = ([], same ∙ sym (append-nil (pairs_in s)))

  step_adds : (by : ℕ) (c : Call) (r : Reply) (s : State) → IsSettled s → Keeps c → Adds s (effect plan.rules by c r s)
  step_adds by (call.OpenScope label prefix) r s state is = absurd is
  step_adds by (call.Release label) r s state is = absurd is
  step_adds by (call.Find key) (reply.Made id numbers) s state is = (
    (key.kind, name_of s key) ∷ [],
    seat_pairs (hold key (scope_of s key) (verdict.Accepted id)) by (record s { metrics = s.metrics ++ made_row plan.rules s key numbers ∷ [] }) ∙ sym (map_pushed pair_of s.metrics (made_row plan.rules s key numbers)),
  )
  step_adds by (call.Find key) (reply.Found id) s state is =
      none_added s (effect plan.rules by (call.Find key) (reply.Found id) s) (seat_pairs (hold key (scope_of s key) (verdict.Accepted id)) by (on_metric (found_row (scope_of s key) key.mode) id.0 s) ∙ map_kept pair_of (found_row (scope_of s key) key.mode) id.0 s.metrics (λ row. refl))
  step_adds by (call.Find key) reply.Rejected s state is = none_added s (effect plan.rules by (call.Find key) reply.Rejected s) (seat_pairs (hold key (scope_of s key) verdict.Rejected) by s)
  step_adds by (call.SetText id text) reply.TextSet s state is =
      none_added s (effect plan.rules by (call.SetText id text) reply.TextSet s) (map_kept pair_of (λ (row : Row). record row { metric = record row.metric { text = text } }) id.0 s.metrics (λ row. refl))
  step_adds by call.Ack (reply.Acked tag) s state is = none_added s (effect plan.rules by call.Ack (reply.Acked tag) s) (seat_pairs (acknowledged s.scopes tag) by s)
  step_adds by call.Sweep (reply.Swept n) s state is = none_added s (effect plan.rules by call.Sweep (reply.Swept n) s) (ap (λ (l : List Row). map pair_of l) (none_swept s.seats s.metrics state.lives))
  step_adds by call.End reply.Ended s state is = none_added s (effect plan.rules by call.End reply.Ended s) (seat_pairs ended by s)
  step_adds by _ _ s state is = none_added s s refl

  run_adds : (s : State) (log : List Entry) → IsSettled s → AllByRecursion (λ e. Keeps e.call) log → Run plan.rules s log → Adds s (replay_from plan.rules s log)
  run_adds s [] state calls run = none_added s s refl
  run_adds s (e ∷ log) state calls run =
      let next = step_settled plan room.names room.few room.few_histograms e.seat e.call e.reply s calls.0 run.0 state in
      let one = step_adds e.seat e.call e.reply s state calls.0 in
      let rest = run_adds (effect plan.rules e.seat e.call e.reply s) log next calls.1 run.1 in
      (one.0 ++ rest.0, rest.1 ∙ ap (λ (l : List NamedKind). l ++ rest.0) one.1 ∙ append_assoc (pairs_in s) one.0 rest.0)

  found_is : (s : State) (key : Key) (a : Option ℕ) (b : Bool) (k : Option ℕ) (f o : Bool) (given : MetricId) → Tells s key (first_case a b k f o) (reply.Found given) → (IsSome a) × (b ≡ true) × (k ≡ Some given.0)
  found_is s key None b k f o given is = absurd is
  found_is s key (Some i) false k f o given is = absurd is
  found_is s key (Some i) true (Some id) f o given is = (refl, refl, ap (λ (n : ℕ). Some n) (sym is))
  found_is s key (Some i) true None true o given is = absurd is
  found_is s key (Some i) true None false true given is = absurd is
  found_is s key (Some i) true None false false given is = absurd is

  made_at : (s : State) (key : Key) (a : Option ℕ) (b : Bool) (k : Option ℕ) (f o : Bool) (given : MetricId) (numbers : List ℕ) → Tells s key (first_case a b k f o) (reply.Made given numbers) → given.0 ≡ length s.metrics
  made_at s key None b k f o given numbers is = absurd is
  made_at s key (Some i) false k f o given numbers is = absurd is
  made_at s key (Some i) true (Some id) f o given numbers is = absurd is
  made_at s key (Some i) true None true o given numbers is = absurd is
  made_at s key (Some i) true None false true given numbers is = absurd is
  made_at s key (Some i) true None false false given numbers is = is.0

  -- what a find accepts is of its key
  same_id : (a b : MetricId) → verdict.Accepted a ≡ verdict.Accepted b → a.0 ≡ b.0
  same_id a b e = cc

  module _ (s : State) (state : IsSettled s) (key : Key) (by : ℕ) where
    abbrev named : NamedKind
    named = (key.kind, name_of s key)

    means : IsSome (live_scope s key.label) → plan.rules.admits (name_of s key) ≡ true → key_named plan key ≡ Some named
    means live admitted = shown_by plan room.names room.few room.few_histograms s state key live ∙ ap (λ (t : Bool). cond t (Some named) None) admitted

    is_of : (all : List NamedKind) (id : MetricId) → slice_get all id.0 ≡ Some named → key_named plan key ≡ Some named → IsOf all key id
    is_of all id at is = (at ∙ sym is, subst (λ (o : Option NamedKind). IsSome o) (sym is) refl)

    find_named : Keeps (call.Find key) → (r : Reply) (all more : List NamedKind) → Allowed plan.rules by (call.Find key) r s → all ≡ pairs_in (effect plan.rules by (call.Find key) r s) ++ more
        → (v : Verdict) → verdict_of r ≡ Some v → NamedAt all key v
    unfolding step_adds none_added
    find_named has (reply.Made given numbers) all more allowed whole v told = (
      λ id is.
          let case = new_is plan room.names room.few room.few_histograms s key (live_scope s key.label) (plan.rules.admits (name_of s key)) (known s key.kind (name_of s key)) (is_full s) (is_over_limit s key.kind) given numbers allowed.1 in
          let at = made_at s key (live_scope s key.label) (plan.rules.admits (name_of s key)) (known s key.kind (name_of s key)) (is_full s) (is_over_limit s key.kind) given numbers allowed.1 in
          let same : given.0 ≡ id.0 = same_id given id (some_same (verdict.Accepted given) v told ∙ is) in
          let long = length-map s.metrics pair_of in
          let pairs : all ≡ (pairs_in s ++ named ∷ []) ++ more = whole ∙ ap (λ (l : List NamedKind). l ++ more) (step_adds by (call.Find key) (reply.Made given numbers) s state has).1 in
          is_of all id
          (ap (λ (l : List NamedKind). slice_get l id.0) pairs
          ∙ get_front (pairs_in s ++ named ∷ []) more id.0 named (get_push_last (pairs_in s) named id.0 (omega (arith, at, long, same))))
          (means case.0 case.1),
      (λ took. (given, sym (some_same (verdict.Accepted given) v told))),
    )
    find_named has (reply.Found given) all more allowed whole v told = (
      λ id is.
          let case = found_is s key (live_scope s key.label) (plan.rules.admits (name_of s key)) (known s key.kind (name_of s key)) (is_full s) (is_over_limit s key.kind) given allowed.1 in
          let same : given.0 ≡ id.0 = same_id given id (some_same (verdict.Accepted given) v told ∙ is) in
          let pairs : all ≡ (pairs_in s ++ []) ++ more = whole ∙ ap (λ (l : List NamedKind). l ++ more) (step_adds by (call.Find key) (reply.Found given) s state has).1 in
          is_of all id
          (ap (λ (l : List NamedKind). slice_get l id.0) (pairs ∙ ap (λ (l : List NamedKind). l ++ more) (append-nil (pairs_in s)))
          ∙ get_front (pairs_in s) more id.0 named (ap (λ (k : ℕ). slice_get (pairs_in s) k) (sym same) ∙ known_pair s key given.0 case.2))
          (means case.0 case.1),
      (λ took. (given, sym (some_same (verdict.Accepted given) v told))),
    )
    find_named has reply.Rejected all more allowed whole v told = (
      (λ id is. absurd (true_false (sym (ap took_effect (some_same verdict.Rejected v told ∙ is))))),
      (λ took. absurd (true_false (sym took ∙ ap took_effect (sym (some_same verdict.Rejected v told))))),
    )
    find_named has reply.NoScope all more allowed whole v told = (
      (λ id is. absurd (true_false (sym (ap took_effect (some_same verdict.NoScope v told ∙ is))))),
      (λ took. absurd (true_false (sym took ∙ ap took_effect (sym (some_same verdict.NoScope v told))))),
    )
    find_named has reply.NoRoom all more allowed whole v told = (
      (λ id is. absurd (true_false (sym (ap took_effect (some_same verdict.NoRoom v told ∙ is))))),
      (λ took. absurd (true_false (sym took ∙ ap took_effect (sym (some_same verdict.NoRoom v told))))),
    )
    find_named has reply.OverLimit all more allowed whole v told = (
      (λ id is. absurd (true_false (sym (ap took_effect (some_same verdict.OverLimit v told ∙ is))))),
      (λ took. absurd (true_false (sym took ∙ ap took_effect (sym (some_same verdict.OverLimit v told))))),
    )
    find_named has reply.LabelTaken all more allowed whole v told = (
      (λ id is. absurd (true_false (sym (ap took_effect (some_same verdict.LabelTaken v told ∙ is))))),
      (λ took. absurd (true_false (sym took ∙ ap took_effect (sym (some_same verdict.LabelTaken v told))))),
    )
    find_named has (reply.Opened given) all more allowed whole v told = absurd (never_opened s key (outcome plan.rules s key) given allowed.1)
    find_named has (reply.Released given) all more allowed whole v told = absurd (never_released s key (outcome plan.rules s key) given allowed.1)
    find_named has reply.TextSet all more allowed whole v told = absurd (not_some v told)
    find_named has (reply.Acked tag) all more allowed whole v told = absurd (not_some v told)
    find_named has (reply.Swept n) all more allowed whole v told = absurd (not_some v told)
    find_named has reply.Ended all more allowed whole v told = absurd (not_some v told)

  -- a seat that holds what is named, after an entry
  on_seat_named : (all : List NamedKind) (f : Seat → Seat) (by : ℕ) (s : State) → ((row : Seat) → AllByRecursion (λ (h : Held). NamedAt all h.key h.verdict) row.held → AllByRecursion (λ (h : Held). NamedAt all h.key h.verdict) (f row).held)
      → NamedSeats all s → NamedSeats all (on_seat f by s)
  on_seat_named all f zero s keeps is = is
  on_seat_named all f (suc at) s keeps is = all_changed (λ (row : Seat). AllByRecursion (λ (h : Held). NamedAt all h.key h.verdict) row.held) f at s.seats keeps is

  hold_named : (all : List NamedKind) (key : Key) (scope : ℕ) (v : Verdict) (row : Seat) → NamedAt all key v → AllByRecursion (λ (h : Held). NamedAt all h.key h.verdict) row.held
      → AllByRecursion (λ (h : Held). NamedAt all h.key h.verdict) (hold key scope v row).held
  hold_named all key scope v row is was = all_joined (λ (h : Held). NamedAt all h.key h.verdict) row.held (record { key = key; scope = scope; verdict = v } ∷ []) was (is, tt)

  step_named : (by : ℕ) (c : Call) (r : Reply) (s : State) (all more : List NamedKind) → IsSettled s → Keeps c → Allowed plan.rules by c r s → all ≡ pairs_in (effect plan.rules by c r s) ++ more
      → NamedSeats all s → NamedSeats all (effect plan.rules by c r s)
  step_named by (call.OpenScope label prefix) r s all more state is allowed whole seats = absurd is
  step_named by (call.Release label) r s all more state is allowed whole seats = absurd is
  step_named by (call.Find key) (reply.Made id numbers) s all more state is allowed whole seats =
      on_seat_named all (hold key (scope_of s key) (verdict.Accepted id)) by (record s { metrics = s.metrics ++ made_row plan.rules s key numbers ∷ [] })
      (λ row was. hold_named all key (scope_of s key) (verdict.Accepted id) row (find_named s state key by is (reply.Made id numbers) all more allowed whole (verdict.Accepted id) refl) was) seats
  step_named by (call.Find key) (reply.Found id) s all more state is allowed whole seats =
      on_seat_named all (hold key (scope_of s key) (verdict.Accepted id)) by (on_metric (found_row (scope_of s key) key.mode) id.0 s)
      (λ row was. hold_named all key (scope_of s key) (verdict.Accepted id) row (find_named s state key by is (reply.Found id) all more allowed whole (verdict.Accepted id) refl) was) seats
  step_named by (call.Find key) reply.Rejected s all more state is allowed whole seats =
      on_seat_named all (hold key (scope_of s key) verdict.Rejected) by s
      (λ row was. hold_named all key (scope_of s key) verdict.Rejected row (find_named s state key by is reply.Rejected all more allowed whole verdict.Rejected refl) was) seats
  step_named by (call.SetText id text) reply.TextSet s all more state is allowed whole seats = seats
  step_named by call.Ack (reply.Acked tag) s all more state is allowed whole seats =
      on_seat_named all (acknowledged s.scopes tag) by s (λ row was. all_filtered (λ (h : Held). NamedAt all h.key h.verdict) (λ (h : Held). is_live s.scopes h.scope) row.held was) seats
  step_named by call.Sweep (reply.Swept n) s all more state is allowed whole seats = seats
  step_named by call.End reply.Ended s all more state is allowed whole seats = on_seat_named all ended by s (λ row was. tt) seats
  step_named by _ _ s all more state is allowed whole seats = seats

  abbrev NamedOwn : List NamedKind → Own → Type 0
  NamedOwn all o = ((key : Key) (v : Verdict) → o.call ≡ call.Find key → verdict_of o.reply ≡ Some v → NamedAt all key v) × NamedSeats all o.after

  pub own_named : (w : ℕ) (s : State) (log : List Entry) (all : List NamedKind) → all ≡ pairs_in (replay_from plan.rules s log) → IsSettled s → AllByRecursion (λ e. Keeps e.call) log → Run plan.rules s log → NamedSeats all s
      → AllByRecursion (NamedOwn all) (own plan.rules w s log)
  own_named w s [] all whole state calls run seats = tt
  own_named w s (e ∷ log) all whole state calls run seats =
      let next : State = effect plan.rules e.seat e.call e.reply s in
      let next_state = step_settled plan room.names room.few room.few_histograms e.seat e.call e.reply s calls.0 run.0 state in
      let later = run_adds next log next_state calls.1 run.1 in
      let pairs : all ≡ pairs_in next ++ later.0 = whole ∙ later.1 in
      let now = step_named e.seat e.call e.reply s all later.0 state calls.0 run.0 pairs seats in
      by_case (e.seat == w) (entry_named later.0 pairs, now) (own_named w next log all whole next_state calls.1 run.1 now) where
        entry_named : (more : List NamedKind) → all ≡ pairs_in (effect plan.rules e.seat e.call e.reply s) ++ more → (key : Key) (v : Verdict) → e.call ≡ call.Find key → verdict_of e.reply ≡ Some v → NamedAt all key v
        entry_named more pairs key v is told =
            find_named s state key e.seat (subst Keeps is calls.0) e.reply all more (subst (λ (c : Call). Allowed plan.rules e.seat c e.reply s) is run.0)
            (pairs ∙ ap (λ (c : Call). pairs_in (effect plan.rules e.seat c e.reply s) ++ more) is) v told

        by_case : (t : Bool) → ((key : Key) (v : Verdict) → e.call ≡ call.Find key → verdict_of e.reply ≡ Some v → NamedAt all key v) × NamedSeats all (effect plan.rules e.seat e.call e.reply s)
            → AllByRecursion (NamedOwn all) (own plan.rules w (effect plan.rules e.seat e.call e.reply s) log)
            → AllByRecursion (NamedOwn all) (cond t (record { call = e.call; reply = e.reply; after = effect plan.rules e.seat e.call e.reply s } ∷ own plan.rules w (effect plan.rules e.seat e.call e.reply s) log) (own plan.rules w (effect plan.rules e.seat e.call e.reply s) log))
        by_case true here rest = (here, rest)
        by_case false here rest = rest

  -- the verdict that a seat holds under a key
  held_named : (all : List NamedKind) (s : State) (seat : ℕ) (key : Key) (v : Verdict) → NamedSeats all s → held_verdict s seat key ≡ Some v → NamedAt all key v
  held_named all s seat key v holds held = of_list (held_in s seat) (of_seat seat) held where
    at_place : (at : ℕ) (seats : List Seat) → AllByRecursion (λ (row : Seat). AllByRecursion (λ (h : Held). NamedAt all h.key h.verdict) row.held) seats
        → AllByRecursion (λ (h : Held). NamedAt all h.key h.verdict) (option_map_or (λ (row : Seat). row.held) (slice_get seats at) [])
    at_place at [] are = tt
    at_place zero (row ∷ seats) are = are.0
    at_place (suc at) (row ∷ seats) are = at_place at seats are.1

    of_seat : (n : ℕ) → AllByRecursion (λ (h : Held). NamedAt all h.key h.verdict) (held_in s n)
    of_seat zero = tt
    of_seat (suc at) = at_place at s.seats holds

    first : (t : Bool) (h : Held) (o : Option Held) → same_key h.key key ≡ t → NamedAt all h.key h.verdict → (option_map (λ (x : Held). x.verdict) o ≡ Some v → NamedAt all key v)
        → option_map (λ (x : Held). x.verdict) (cond t (Some h) o) ≡ Some v → NamedAt all key v
    first true h o same is rest e = (
      (λ id v_is. subst (λ (n : Option NamedKind). (slice_get all id.0 ≡ n) × IsSome n) (key_is plan h.key key same) (is.0 id (some_same h.verdict v e ∙ v_is))),
      (λ took. subst IsAccepted (some_same h.verdict v e) (is.1 (ap took_effect (some_same h.verdict v e) ∙ took))),
    )
    first false h o same is rest e = rest e

    of_list : (hs : List Held) → AllByRecursion (λ (h : Held). NamedAt all h.key h.verdict) hs → option_map (λ (h : Held). h.verdict) (held_under key hs) ≡ Some v → NamedAt all key v
    of_list [] are e = absurd (not_some v e)
    of_list (h ∷ hs) are e = first (same_key h.key key) h (held_under key hs) refl are.0 (of_list hs are.1) e

  -- an accepted event is of what it names
  abbrev pub IsNamed : List NamedKind → Event → Verdict → Type 0
  IsNamed all e v = ((id : MetricId) → v ≡ verdict.Accepted id → (slice_get all id.0 ≡ named_by plan e) × IsSome (named_by plan e))
      × (took_effect v ≡ true → IsAccepted v)

  finds_named : (all : List NamedKind) (key : Key) (e : Event) (v : Verdict) (held : Option Verdict) (made : List Own) → ((h : Verdict) → held ≡ Some h → NamedAt all key h) → AllByRecursion (NamedOwn all) made
      → Finds key e v held made → NamedAt all key v
  finds_named all key e v (Some h) made held are is = (
    (λ id v_is. (held h refl).0 id (sym is.0 ∙ v_is)),
    (λ took. subst IsAccepted (sym is.0) ((held h refl).1 (ap took_effect (sym is.0) ∙ took))),
  )
  finds_named all key e v None (o ∷ made) held are is = are.0.0 key v is.0 is.1
  finds_named all key e v None [] held are is = absurd is

  makes_named : (all : List NamedKind) (seat : ℕ) (s : State) (e : Event) (v : Verdict) (made : List Own) → IsSome (event_key e) → NamedSeats all s → AllByRecursion (NamedOwn all) made → Makes seat s e v made → IsNamed all e v
  makes_named all seat s (event.OpenScope label prefix) v made fits holds are is = absurd (true_false (sym fits))
  makes_named all seat s (event.Release label) v made fits holds are is = absurd (true_false (sym fits))
  makes_named all seat s (event.Inc label name n) v made fits holds are is = finds_named all _ (event.Inc label name n) v _ made (λ h e. held_named all s seat _ h holds e) are is
  makes_named all seat s (event.Gauge label name mode how n) v made fits holds are is = finds_named all _ (event.Gauge label name mode how n) v _ made (λ h e. held_named all s seat _ h holds e) are is
  makes_named all seat s (event.Rec label name n) v made fits holds are is = finds_named all _ (event.Rec label name n) v _ made (λ h e. held_named all s seat _ h holds e) are is
  makes_named all seat s (event.SetText label name text) v made fits holds are is = finds_named all _ (event.SetText label name text) v _ made (λ h e. held_named all s seat _ h holds e) are is

  acked_named : (all : List NamedKind) (seat : ℕ) (s : State) (e : Event) (v : Verdict) (made : List Own) → IsSome (event_key e) → NamedSeats all s → AllByRecursion (NamedOwn all) made → MakesAcked seat s e v made → IsNamed all e v
  acked_named all seat s e v made fits holds are (inl is) = makes_named all seat s e v made fits holds are is.1
  acked_named all seat s e v made fits holds are (inr is) =
      let own_all = subst (λ (l : List Own). AllByRecursion (NamedOwn all) l) is.2 are in
      makes_named all seat is.0.after e v is.1 fits own_all.0.1 own_all.1 is.4

  after_named : (all : List NamedKind) (s : State) (made : List Own) → NamedSeats all s → AllByRecursion (NamedOwn all) made → NamedSeats all (after_all s made)
  after_named all s [] holds are = holds
  after_named all s (o ∷ made) holds are = after_named all o.after made are.0.1 are.1

  state_named : (all : List NamedKind) (s : State) (applied : List Applied) → NamedSeats all s → AllByRecursion (NamedOwn all) (entries_of applied) → NamedSeats all (state_after s applied)
  state_named all s [] holds are = holds
  state_named all s (a ∷ before) holds are =
      let parts = all_parts (NamedOwn all) (entries_of before) a.made are in
      after_named all (state_after s before) a.made (state_named all s before holds parts.0) parts.1

  chain_named : (all : List NamedKind) (seat : ℕ) (s : State) (applied : List Applied) → AllByRecursion (λ (e : Event). IsSome (event_key e)) (events_of applied) → NamedSeats all s → AllByRecursion (NamedOwn all) (entries_of applied) → IsChain seat s applied
      → AllByRecursion (λ told. IsNamed all told.0 told.1) (told_of plan events room applied)
  chain_named all seat s [] fits holds are chain = tt
  chain_named all seat s (a ∷ before) fits holds are chain =
      let parts = all_parts (NamedOwn all) (entries_of before) a.made are in
      let keys = all_parts (λ (e : Event). IsSome (event_key e)) (events_of before) (a.event ∷ []) fits in
      all_joined (λ (told : Event × Verdict). IsNamed all told.0 told.1) (told_of plan events room before) ((a.event, a.verdict) ∷ []) (chain_named all seat s before keys.0 holds parts.0 chain.0)
      (acked_named all seat (state_after s before) a.event a.verdict a.made keys.1.0 (state_named all s before holds parts.0) parts.1 chain.1, tt)

  empty_named : (all : List NamedKind) (workers : ℕ) → NamedSeats all (empty workers)
  empty_named all zero = tt
  empty_named all (suc n) = (tt, empty_named all n)

  pub work_named : (all : List NamedKind) (workers seat : ℕ) (work : Work) (log : List Entry) → AllByRecursion (λ (e : Event). IsSome (event_key e)) (events_in work) → Follows plan.rules workers seat (events_in work) (verdicts_in work) log
      → AllByRecursion (NamedOwn all) (own plan.rules seat (empty workers) log) → AllByRecursion (λ told. IsNamed all told.0 told.1) work
  work_named all workers seat work log fits follows are =
      let of = follows.of_events in
      let entries = subst (λ (l : List Own). AllByRecursion (NamedOwn all) l) (follows.own_are ∙ ap (λ (l : List Own). l ++ follows.last ∷ []) of.entries_are) are in
      let parts = all_parts (NamedOwn all) (entries_of of.applied) (follows.last ∷ []) entries in
      let keys = subst (λ (l : List Event). AllByRecursion (λ (e : Event). IsSome (event_key e)) l) of.events_are fits in
      let named = chain_named all seat (empty workers) of.applied keys (empty_named all workers) parts.0 of.chain in
      subst (λ (l : Work). AllByRecursion (λ (told : Event × Verdict). IsNamed all told.0 told.1) l)
      (same_work plan events room (told_of plan events room of.applied) work (told_events plan events room of.applied ∙ sym of.events_are) (told_verdicts plan events room of.applied ∙ sym of.verdicts_are)) named

  pub each_named : (workers : ℕ) (log : List Entry) (legal : Legal plan.rules plan.scopes workers log) → AllByRecursion (λ e. Keeps e.call) legal.rest
      → (all : List NamedKind) → all ≡ pairs_in (replay plan.rules workers log)
      → (n : ℕ) (works : List Work) → 1 ≤ n → EachNumbered (λ w work. Follows plan.rules workers w (events_in work) (verdicts_in work) log) n works
      → AllByRecursion (λ work. AllByRecursion (λ (e : Event). IsSome (event_key e)) (events_in work)) works
      → AllByRecursion (λ work. AllByRecursion (λ told. IsNamed all told.0 told.1) work) works
  each_named workers log legal calls all whole n [] above follows keys = tt
  each_named workers log legal calls all whole n (work ∷ works) above follows keys =
      let opened_state : State = replay_from plan.rules (empty workers) (openings 0 plan.scopes) in
      let run = run_behind plan events room (empty workers) (openings 0 plan.scopes) legal.rest (subst (λ (l : List Entry). Run plan.rules (empty workers) l) legal.begins legal.steps) in
      let end : all ≡ pairs_in (replay_from plan.rules opened_state legal.rest) =
      whole ∙ ap pairs_in (ap (λ (l : List Entry). replay plan.rules workers l) legal.begins ∙ replayed_on plan.rules (empty workers) (openings 0 plan.scopes) legal.rest) in
      let seats : NamedSeats all opened_state = subst (λ (l : List Seat). AllByRecursion (λ (row : Seat). AllByRecursion (λ (h : Held). NamedAt all h.key h.verdict) row.held) l)
      (sym (opened_seats plan events room 0 plan.scopes (empty workers))) (empty_named all workers) in
      let are = own_named n opened_state legal.rest all end (behind_openings plan events room workers) calls run seats in (
        work_named all workers n work log keys.0 follows.0 (subst (λ (l : List Own). AllByRecursion (NamedOwn all) l) (sym (own_behind plan events room workers n log legal above)) are),
        each_named workers log legal calls all whole (suc n) works (omega arith) follows.1 keys.1,
      )

  zip_keys : (es : List Event) (vs : List Verdict) → AllByRecursion (λ (e : Event). IsSome (event_key e)) es → AllByRecursion (λ (e : Event). IsSome (event_key e)) (events_in (zip es vs))
  zip_keys [] vs keys = tt
  zip_keys (e ∷ es) [] keys = tt
  zip_keys (e ∷ es) (v ∷ vs) keys = (keys.0, zip_keys es vs keys.1)

  pub works_keys : (files : List (List Event)) (verdicts : List (List Verdict)) → AllByRecursion (λ file. AllByRecursion (λ (e : Event). IsSome (event_key e)) file) files
      → AllByRecursion (λ work. AllByRecursion (λ (e : Event). IsSome (event_key e)) (events_in work)) (apart files verdicts)
  works_keys [] verdicts keys = tt
  works_keys (file ∷ files) [] keys = tt
  works_keys (file ∷ files) (vs ∷ verdicts) keys = (zip_keys file vs keys.0, works_keys files verdicts keys.1)

  pub number_of : (files : List (List Event)) (verdicts : List (List Verdict)) → lengths verdicts ≡ lengths files → length (apart files verdicts) ≡ length verdicts
  number_of [] [] same = refl
  number_of [] (vs ∷ verdicts) same = absurd (nil_cons (length vs) (lengths verdicts) (sym same))
  number_of (file ∷ files) [] same = absurd (nil_cons (length file) (lengths files) same)
  number_of (file ∷ files) (vs ∷ verdicts) same = ap suc (number_of files verdicts (tail_same (length vs) (length file) (lengths verdicts) (lengths files) same))

  pub named_run : (contents : List (Option (List ℕ))) (run : Report) → RunLedger contents events plan run
      → AllByRecursion (λ file. AllByRecursion (λ told. (id : MetricId) → told.1 ≡ verdict.Accepted id → named_at (replay plan.rules (length run.verdicts) run.log) id.0 ≡ named_by plan told.0) (zip file.0 file.1)) (zip events run.verdicts)
  named_run contents run is =
      let works : List Work = apart events run.verdicts in
      let workers : ℕ = length works in
      let legal : Legal plan.rules plan.scopes workers run.log = is.history.legal in
      let all : List NamedKind = pairs_in (replay plan.rules workers run.log) in
      let calls = run_calls plan events room contents run is in
      let named = each_named workers run.log legal calls all refl 1 works (omega arith) is.history.follows (works_keys events run.verdicts room.no_scopes) in
      of_files plan events room work_of (λ work. AllByRecursion (λ told. (id : MetricId) → told.1 ≡ verdict.Accepted id → named_at (replay plan.rules (length run.verdicts) run.log) id.0 ≡ named_by plan told.0) work) (zip events run.verdicts)
      (each_as works named) where
        each_told : (work : Work) → AllByRecursion (λ told. IsNamed (pairs_in (replay plan.rules (length (apart events run.verdicts)) run.log)) told.0 told.1) work
            → AllByRecursion (λ told. (id : MetricId) → told.1 ≡ verdict.Accepted id → named_at (replay plan.rules (length run.verdicts) run.log) id.0 ≡ named_by plan told.0) work
        each_told [] are = tt
        each_told (told ∷ work) are = (
          (λ id told_is.
              ap (λ (n : ℕ). named_at (replay plan.rules n run.log) id.0) (sym (number_of events run.verdicts is.read.a_verdict_each))
              ∙ sym (get_map pair_of (replay plan.rules (length (apart events run.verdicts)) run.log).metrics id.0)
              ∙ (are.0.0 id told_is).0),
          each_told work are.1,
        )

        each_as : (works : List Work) → AllByRecursion (λ work. AllByRecursion (λ told. IsNamed (pairs_in (replay plan.rules (length (apart events run.verdicts)) run.log)) told.0 told.1) work) works
            → AllByRecursion (λ work. AllByRecursion (λ told. (id : MetricId) → told.1 ≡ verdict.Accepted id → named_at (replay plan.rules (length run.verdicts) run.log) id.0 ≡ named_by plan told.0) work) works
        each_as [] are = tt
        each_as (work ∷ works) are = (each_told work are.0, each_as works are.1)

  pub run_settled : (s : State) (log : List Entry) → IsSettled s → AllByRecursion (λ e. Keeps e.call) log → Run plan.rules s log → IsSettled (replay_from plan.rules s log)
  run_settled s [] state calls run = state
  run_settled s (e ∷ log) state calls run =
      run_settled (effect plan.rules e.seat e.call e.reply s) log (step_settled plan room.names room.few room.few_histograms e.seat e.call e.reply s calls.0 run.0 state) calls.1 run.1

  -- one event with its verdict
  hit : (all : List NamedKind) → Once all → (id : ℕ) (n : NamedKind) → slice_get all id ≡ Some n → (e : Event) (v : Verdict) → IsNamed all e v → (IsSome (named_by plan e) → IsAccepted v)
      → is_given id v ≡ names_it plan n e
  hit all once id n at e v named taken = by_verdict v refl where
    none_named : ((id : MetricId) → v ≡ verdict.Accepted id → ⊥) → false ≡ names_it plan n e
    none_named refused = by_name (named_by plan e) refl where
      by_name : (o : Option NamedKind) → named_by plan e ≡ o → false ≡ names_it plan n e
      by_name None is = ap (λ (o : Option NamedKind). option_map_or (λ (m : NamedKind). same_kind n.0 m.0 && same_text n.1 m.1) o false) (sym is)
      by_name (Some m) is = let accepted = taken (subst (λ (o : Option NamedKind). IsSome o) (sym is) refl) in absurd (refused accepted.0 accepted.1)

    given_named : (given : MetricId) (t : Bool) → (given.0 == id) ≡ t → slice_get all given.0 ≡ named_by plan e → IsSome (named_by plan e) → (given.0 == id) ≡ names_it plan n e
    given_named given true is there some =
        let same : named_by plan e ≡ Some n = sym there ∙ ap (λ (k : ℕ). slice_get all k) (eqb-true given.0 id is) ∙ at in
        is ∙ sym (ap (λ (o : Option NamedKind). option_map_or (λ (m : NamedKind). same_kind n.0 m.0 && same_text n.1 m.1) o false) same ∙ itself n)
    given_named given false is there some = by_name (named_by plan e) refl where
      by_name : (o : Option NamedKind) → named_by plan e ≡ o → (given.0 == id) ≡ names_it plan n e
      by_name None none = absurd (true_false (sym (subst (λ (o : Option NamedKind). IsSome o) none some)))
      by_name (Some m) has =
          is ∙ sym (ap (λ (o : Option NamedKind). option_map_or (λ (x : NamedKind). same_kind n.0 x.0 && same_text n.1 x.1) o false) has ∙ apart (same_kind n.0 m.0 && same_text n.1 m.1) refl) where
            apart : (t : Bool) → (same_kind n.0 m.0 && same_text n.1 m.1) ≡ t → t ≡ false
            apart false same = refl
            apart true same =
                let parts = both (same_kind n.0 m.0) (same_text n.1 m.1) same in
                let kind = same_kind_is n.0 m.0 parts.0 in
                let name = text_is n.1 m.1 parts.1 in
                let equal : ◌≡◌ {A = NamedKind} n m = λ i. (kind i, name i) in
                let place : given.0 ≡ id = one_place all given.0 id n once (there ∙ has ∙ ap (λ (x : NamedKind). Some x) (sym equal)) at in
                absurd (eqb-false given.0 id is place)

    by_verdict : (w : Verdict) → v ≡ w → is_given id v ≡ names_it plan n e
    by_verdict (verdict.Accepted given) is = ap (is_given id) is ∙ given_named given (given.0 == id) refl (named.0 given is).0 (named.0 given is).1
    by_verdict (verdict.Opened given) is = ap (is_given id) is ∙ none_named (λ m other. absurd cc)
    by_verdict (verdict.Released given) is = ap (is_given id) is ∙ none_named (λ m other. absurd cc)
    by_verdict verdict.LabelTaken is = ap (is_given id) is ∙ none_named (λ m other. absurd cc)
    by_verdict verdict.NoScope is = ap (is_given id) is ∙ none_named (λ m other. absurd cc)
    by_verdict verdict.Rejected is = ap (is_given id) is ∙ none_named (λ m other. absurd cc)
    by_verdict verdict.OverLimit is = ap (is_given id) is ∙ none_named (λ m other. absurd cc)
    by_verdict verdict.NoRoom is = ap (is_given id) is ∙ none_named (λ m other. absurd cc)

  pub all_hit : (all : List NamedKind) → Once all → (id : ℕ) (n : NamedKind) → slice_get all id ≡ Some n → (works : List Work)
      → AllByRecursion (λ work. AllByRecursion (λ told. IsNamed all told.0 told.1) work) works
      → AllByRecursion (λ work. AllByRecursion (λ told. IsSome (named_by plan told.0) → IsAccepted told.1) work) works
      → AllByRecursion (λ work. AllByRecursion (λ told. is_given id told.1 ≡ names_it plan n told.0) work) works
  all_hit all once id n at [] are_named taken = tt
  all_hit all once id n at (work ∷ works) are_named taken = (each work are_named.0 taken.0, all_hit all once id n at works are_named.1 taken.1) where
    each : (w : Work) → AllByRecursion (λ told. IsNamed all told.0 told.1) w → AllByRecursion (λ told. IsSome (named_by plan told.0) → IsAccepted told.1) w
        → AllByRecursion (λ told. is_given id told.1 ≡ names_it plan n told.0) w
    each [] a b = tt
    each (told ∷ w) a b = (hit all once id n at told.0 told.1 a.0 b.0, each w a.1 b.1)

  pub hit_run : (contents : List (Option (List ℕ))) (run : Report) (id : ℕ) (n : NamedKind) → RunLedger contents events plan run
      → named_at (replay plan.rules (length run.verdicts) run.log) id ≡ Some n
      → AllByRecursion (λ file. AllByRecursion (λ told. is_given id told.1 ≡ names_it plan n told.0) (zip file.0 file.1)) (zip events run.verdicts)
  hit_run contents run id n is at =
      let works : List Work = apart events run.verdicts in
      let workers : ℕ = length works in
      let legal : Legal plan.rules plan.scopes workers run.log = is.history.legal in
      let all : List NamedKind = pairs_in (replay plan.rules workers run.log) in
      let calls = run_calls plan events room contents run is in
      let named = each_named workers run.log legal calls all refl 1 works (omega arith) is.history.follows (works_keys events run.verdicts room.no_scopes) in
      let taken = each_right plan events room workers run.log legal calls 1 works (omega arith) is.history.follows in
      let opened_state : State = replay_from plan.rules (empty workers) (openings 0 plan.scopes) in
      let run_rest = run_behind plan events room (empty workers) (openings 0 plan.scopes) legal.rest (subst (λ (l : List Entry). Run plan.rules (empty workers) l) legal.begins legal.steps) in
      let end = run_settled opened_state legal.rest (behind_openings plan events room workers) calls run_rest in
      let whole : replay plan.rules workers run.log ≡ replay_from plan.rules opened_state legal.rest =
      ap (λ (l : List Entry). replay plan.rules workers l) legal.begins ∙ replayed_on plan.rules (empty workers) (openings 0 plan.scopes) legal.rest in
      let once : Once all = subst (λ (s : State). Once (pairs_in s)) (sym whole) end.once in
      let there : slice_get all id ≡ Some n = get_map pair_of (replay plan.rules workers run.log).metrics id
      ∙ ap (λ (k : ℕ). named_at (replay plan.rules k run.log) id) (number_of events run.verdicts is.read.a_verdict_each) ∙ at in
      of_files plan events room work_of (λ work. AllByRecursion (λ told. is_given id told.1 ≡ names_it plan n told.0) work) (zip events run.verdicts)
      (all_hit all once id n there works named taken)

pub number_hit : NumbersOfNames
number_hit contents events plan run id n room is at = hit_run plan events room contents run id n is at

pub accepted_named : AcceptedNamed
accepted_named contents events plan run room is = named_run plan events room contents run is
