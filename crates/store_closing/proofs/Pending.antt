-- At the end of a store nothing is pending under any number: it is a counter's, which was latched when all workers were
-- back, or no worker added to it.
use Rattle.std.proofs.Common.{◌≡◌, ◌⊎◌, ℕ, zero, suc, ◌+◌, Bool, true, false, cond, Option, Some, None, List, [], ◌∷◌, slice_get, refl, ap, ◌∙◌, subst, arith, inl, inr}
use Rattle.std.specs.Option.{option_map, IsSomeAnd}
use Rattle.std.specs.List.{AllByRecursion}
use Rattle.stat_defs.specs.declared.ids.Kind.{Kind}
use Rattle.stat_defs.specs.declared.ids.Kind.TheVariants.{Counter}
use Rattle.stat_defs.specs.declared.ids.MetricId.{MetricId}
use Rattle.stat_defs.specs.declared.metrics.Metric.{Metric}
use Rattle.stat_defs.specs.Keys.{same_kind}
use Rattle.seat_parts.specs.Parts.{total}
use Rattle.book_state.specs.State.{Row, State, metrics_of, ids_from}
use Rattle.book_state.proofs.Lists.{not_some, some_same, get_map}
use Rattle.metric_words.specs.declared.counter_view.CountPart.{CountPart}
use Rattle.metric_words.specs.declared.counter_view.CountStep.{CountStep}
use Rattle.metric_words.specs.Counters.{firsts, seconds, latches}
use Rattle.metric_words.specs.CounterLaws.{IsCounterEnd}
use Rattle.ledger.specs.Flushes.{ids_made}
use Rattle.run_ledger.specs.Accounts.{IsLatched}
use Rattle.recorder.specs.RecorderKept.{IsCounterIn}

-- a seat added nothing to this number, or it is a counter's
abbrev pub AddsTo : State → ℕ → CountPart → Type 0
AddsTo s id seat = (firsts id seat.steps ≡ 0) ⊎ IsCounterIn s id

-- so all seats together
all_add : (s : State) (id : ℕ) (seats : List CountPart) → AllByRecursion (AddsTo s id) seats → (total (λ p. firsts id p.steps) seats ≡ 0) ⊎ IsCounterIn s id
all_add s id [] each = inl refl
all_add s id (p ∷ seats) each = by_first each.0 (all_add s id seats each.1) where
  by_first : AddsTo s id p → (total (λ q. firsts id q.steps) seats ≡ 0) ⊎ IsCounterIn s id → (total (λ q. firsts id q.steps) (p ∷ seats) ≡ 0) ⊎ IsCounterIn s id
  by_first (inr counter) rest = inr counter
  by_first (inl none) (inr counter) = inr counter
  by_first (inl none) (inl never) = inl (omega (arith, none, never))

-- what holds of each number that is listed holds of each at which such a metric stands
each_listed : (holds : Metric → Bool) (P : ℕ → Type 0) (n : ℕ) (metrics : List Metric) → AllByRecursion (λ (i : MetricId). P i.0) (ids_from holds n metrics)
    → (j k : ℕ) (m : Metric) → k ≡ n + j → slice_get metrics j ≡ Some m → holds m ≡ true → P k
each_listed holds P n [] all j k m at there is = absurd (not_some m there)
each_listed holds P n (x ∷ metrics) all zero k m at there is =
    let rest : List MetricId = ids_from holds (n + 1) metrics in
    let here : holds x ≡ true = ap holds (some_same x m there) ∙ is in
    let own = subst (λ (t : Bool). AllByRecursion (λ (i : MetricId). P i.0) (cond t (record { 0 = n } ∷ rest) rest)) here all in
    subst P (omega (arith, at)) own.0
each_listed holds P n (x ∷ metrics) all (suc j) k m at there is =
    each_listed holds P (n + 1) metrics (by_case (holds x) all) j k m (omega (arith, at)) there is where
      by_case : (t : Bool) → AllByRecursion (λ (i : MetricId). P i.0) (cond t (record { 0 = n } ∷ ids_from holds (n + 1) metrics) (ids_from holds (n + 1) metrics))
          → AllByRecursion (λ (i : MetricId). P i.0) (ids_from holds (n + 1) metrics)
      by_case true all = all.1
      by_case false all = all

of_counter : (P : ℕ → Type 0) (s : State) (id : ℕ) → AllByRecursion (λ (i : MetricId). P i.0) (ids_made Counter s) → IsCounterIn s id → P id
of_counter P s id all is = by_row (slice_get s.metrics id) refl is where
  by_row : (o : Option Row) → slice_get s.metrics id ≡ o → IsSomeAnd o (λ row. row.metric.kind ≡ Counter) → P id
  by_row None there counter = absurd counter
  by_row (Some row) there counter =
      each_listed (λ metric. same_kind metric.kind Counter) P 0 (metrics_of s) all id id row.metric (omega arith)
      (get_map (λ (x : Row). x.metric) s.metrics id ∙ ap (option_map (λ (x : Row). x.metric)) there)
      (ap (λ (k : Kind). same_kind k Counter) counter)

-- the state behind the last sweep, the workers' seats, and the steps of the flusher and of the reader
module _ (s : State) (seats : List CountPart) (flusher reader : List CountStep) (latched : AllByRecursion (IsLatched seats flusher) (ids_made Counter s)) where
  pub none_pending : (id value pending : ℕ) → AllByRecursion (AddsTo s id) seats → IsCounterEnd id seats flusher reader value pending → pending ≡ 0
  none_pending id value pending each end = by_number (all_add s id seats each) where
    by_number : (total (λ (p : CountPart). firsts id p.steps) seats ≡ 0) ⊎ IsCounterIn s id → pending ≡ 0
    by_number (inl none) =
        let sum = end.firsts in
        let whole = end.latched in
        omega (arith, none, sum, whole)
    by_number (inr counter) =
        let all = of_counter (λ k. latches k flusher ≡ total (λ (p : CountPart). seconds k p.steps) seats) s id latched counter in
        let sum = end.seconds in
        let whole = end.latched in
        omega (arith, all, sum, whole)
