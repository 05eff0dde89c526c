-- A metric keeps its name and its numbers.
use Rattle.std.proofs.Common.{◌≡◌, ℕ, zero, suc, ◌+◌, Bool, true, false, cond, Option, Some, List, [], ◌∷◌, ◌++◌, map, slice_get, refl, ap, sym, ◌∙◌, subst, arith, inl, inr}
use Rattle.std.specs.Option.{option_map, IsSomeAnd}
use Rattle.stat_defs.specs.declared.history.Call.{Call}
use Rattle.stat_defs.specs.declared.history.Call.TheVariants as call
use Rattle.stat_defs.specs.declared.history.Reply.{Reply}
use Rattle.stat_defs.specs.declared.history.Reply.TheVariants as reply
use Rattle.stat_defs.specs.declared.history.Entry.{Entry}
use Rattle.book_state.specs.State.{NameRules, Row, Seat, State, bears}
use Rattle.book_state.specs.Finding.{scope_of}
use Rattle.book_state.specs.Step.{effect, change_at, on_seat, on_metric, found, made, left_to, released, overdue, swept}
use Rattle.book_state.specs.Log.{empty, replay_from, replay}
use Rattle.book_state.specs.SafeLaws.{IsSameMetric, MetricsStay}
use Rattle.book_state.proofs.Growing.{replayed_on}
use Rattle.book_state.proofs.Lists.{eq_or, get_change_same, get_change_other, get_map, get_within, get_push_before}
use Rattle.book_state.proofs.Releasing.{others}

-- the metric of this number is still there
abbrev Still : List Row → ℕ → Row → Type 0
Still rows id row = (row' : Row) × (slice_get rows id ≡ Some row') × IsSameMetric row row'

itself : (row : Row) → IsSameMetric row row
itself row = record { name = refl; kind = refl; numbers = refl; tagged = refl }

same_twice : (a b c : Row) → IsSameMetric a b → IsSameMetric b c → IsSameMetric a c
same_twice a b c ab bc = record { name = bc.name ∙ ab.name; kind = bc.kind ∙ ab.kind; numbers = bc.numbers ∙ ab.numbers; tagged = bc.tagged ∙ ab.tagged }

changed : (f : Row → Row) → ((row : Row) → IsSameMetric row (f row)) → (at : ℕ) (rows : List Row) (id : ℕ) (row : Row) → slice_get rows id ≡ Some row → Still (change_at f at rows) id row
changed f same at rows id row here = elim (eq_or id at) [
  | inl is ↦ (
    f row,
    ap (λ (k : ℕ). slice_get (change_at f at rows) k) is ∙ (get_change_same f at rows ∙ ap (option_map f) (ap (λ (k : ℕ). slice_get rows k) (sym is) ∙ here)),
    same row,
  )
  | inr other ↦ (row, get_change_other f at rows id other ∙ here, itself row)
]

mapped : (f : Row → Row) → ((row : Row) → IsSameMetric row (f row)) → (rows : List Row) (id : ℕ) (row : Row) → slice_get rows id ≡ Some row → Still (map f rows) id row
mapped f same rows id row here = (f row, get_map f rows id ∙ ap (option_map f) here, same row)

left_same : (tag : ℕ) (row : Row) (left : List ℕ) → IsSameMetric row (left_to tag row.metric left)
left_same tag row [] = record { name = refl; kind = refl; numbers = refl; tagged = refl }
left_same tag row (b ∷ bs) = record { name = refl; kind = refl; numbers = refl; tagged = refl }

cond_same : (t : Bool) (row a b : Row) → IsSameMetric row a → IsSameMetric row b → IsSameMetric row (cond t a b)
cond_same true row a b sa sb = sa
cond_same false row a b sa sb = sb

on_seat_still : (f : Seat → Seat) (by : ℕ) (s : State) (id : ℕ) (row : Row) → Still s.metrics id row → Still (on_seat f by s).metrics id row
on_seat_still f zero s id row still = still
on_seat_still f (suc at) s id row still = still

module _ (rules : NameRules) where
  step_still : (by : ℕ) (c : Call) (r : Reply) (s : State) (id : ℕ) (row : Row) → slice_get s.metrics id ≡ Some row → Still (effect rules by c r s).metrics id row
  step_still by (call.OpenScope label prefix) (reply.Opened scope) s id row here = (row, here, itself row)
  step_still by (call.Release label) (reply.Released scope) s id row here = mapped (released scope.0 (s.releases + 1))
      (λ x. cond_same (bears scope.0 x) x (left_to (s.releases + 1) x.metric (others scope.0 x.bearers)) x (left_same (s.releases + 1) x (others scope.0 x.bearers)) (itself x)) s.metrics id row here
  step_still by (call.Find key) (reply.Made new numbers) s id row here =
      let more : State = record s { metrics = s.metrics ++ made rules s key numbers ∷ [] } in
      on_seat_still _ by more id row
      (row, get_push_before s.metrics (made rules s key numbers) id (λ e. omega (arith, e, get_within s.metrics id row here)) ∙ here, itself row)
  step_still by (call.Find key) (reply.Found known) s id row here =
      let live : State = on_metric (found (scope_of s key) key.mode) known.0 s in
      on_seat_still _ by live id row
      (changed (found (scope_of s key) key.mode) (λ x. record { name = refl; kind = refl; numbers = refl; tagged = refl }) known.0 s.metrics id row here)
  step_still by (call.Find key) reply.Rejected s id row here = on_seat_still _ by s id row (row, here, itself row)
  step_still by (call.SetText at text) reply.TextSet s id row here =
      changed (λ x. record x { metric = record x.metric { text = text } }) (λ x. record { name = refl; kind = refl; numbers = refl; tagged = refl }) at.0 s.metrics id row here
  step_still by call.Ack (reply.Acked tag) s id row here = on_seat_still _ by s id row (row, here, itself row)
  step_still by call.Sweep (reply.Swept n) s id row here =
      mapped (swept s.seats) (λ x. cond_same (overdue s.seats x.metric.life) x _ x (record { name = refl; kind = refl; numbers = refl; tagged = refl }) (itself x)) s.metrics id row here
  step_still by call.End reply.Ended s id row here = on_seat_still _ by s id row (row, here, itself row)
  step_still by _ _ s id row here = (row, here, itself row)

  pub run_still : (s : State) (log : List Entry) (id : ℕ) (row : Row) → slice_get s.metrics id ≡ Some row → Still (replay_from rules s log).metrics id row
  run_still s [] id row here = (row, here, itself row)
  run_still s (e ∷ log) id row here =
      let once = step_still e.seat e.call e.reply s id row here in
      let rest = run_still (effect rules e.seat e.call e.reply s) log id once.0 once.1 in
      (rest.0, rest.1, same_twice row once.0 rest.0 once.2 rest.2)

pub metrics_stay : MetricsStay
metrics_stay rules workers log more id row here =
    let still = run_still rules (replay rules workers log) more id row here in
    let at = ap (λ (s : State). slice_get s.metrics id) (replayed_on rules (empty workers) log more) ∙ still.1 in
    subst (λ (o : Option Row). IsSomeAnd o (IsSameMetric row)) (sym at) still.2
