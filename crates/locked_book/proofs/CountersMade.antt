-- All metrics of a kind that were made.
use Rattle.std.proofs.Common.{◌≡◌, ℕ, zero, suc, ◌+◌, ◌<◌, Bool, false, cond, Option, List, [], ◌∷◌, map, filter, length, slice_get, All, refl, ap, sym, ◌∙◌, subst, arith}
use Rattle.std.specs.List.{range_with_len}
use Rattle.std.specs.Option.{option_map_or}
use Rattle.std.proofs.lemmas.List.Elements.{All-cons, All-nil, All-weaker, All-filter}
use Rattle.stat_defs.specs.Books.{BookHistory}
use Rattle.stat_defs.specs.Keys.{same_kind}
use Rattle.stat_defs.specs.declared.ids.Kind.{Kind}
use Rattle.stat_defs.specs.declared.ids.MetricId.{MetricId}
use Rattle.book_state.specs.declared.limits.TheConstants.{MAX_METRICS}
use Rattle.book_state.specs.State.{State, Row, metrics_of, ids_from}
use Rattle.stat_book.specs.Calls.{state_of, IsLegal}
use Rattle.locked_book.specs.Lists.{is_of_kind, AreMetrics}
use Rattle.locked_book.specs.Ending.{as_id}
use Rattle.locked_book.proofs.OfKind.{few_metrics}

-- the metrics of a kind among all numbers
module _ (kind : Kind) (s : State) where
  made_from : (n : ℕ) (rows : List Row) → ((k : ℕ) → slice_get s.metrics (n + k) ≡ slice_get rows k)
      → filter (is_of_kind kind s) (map as_id (range_with_len n (length rows))) ≡ ids_from (λ m. same_kind m.kind kind) n (map (λ (row : Row). row.metric) rows)
  made_from n [] at = refl
  made_from n (r ∷ rows) at = by_case (same_kind r.metric.kind kind) here (made_from (n + 1) rows (λ k. ap (slice_get s.metrics) (omega arith) ∙ at (suc k))) where
    here : is_of_kind kind s (as_id n) ≡ same_kind r.metric.kind kind
    here = ap (λ (o : Option Row). option_map_or (λ row. same_kind row.metric.kind kind) o false) (ap (slice_get s.metrics) (omega arith) ∙ at 0)

    by_case : (u : Bool) → is_of_kind kind s (as_id n) ≡ u
        → filter (is_of_kind kind s) (map as_id (range_with_len (n + 1) (length rows))) ≡ ids_from (λ m. same_kind m.kind kind) (n + 1) (map (λ (row : Row). row.metric) rows)
        → filter (is_of_kind kind s) (as_id n ∷ map as_id (range_with_len (n + 1) (length rows)))
        ≡ cond u (as_id n ∷ ids_from (λ m. same_kind m.kind kind) (n + 1) (map (λ (row : Row). row.metric) rows)) (ids_from (λ m. same_kind m.kind kind) (n + 1) (map (λ (row : Row). row.metric) rows))
    by_case u is rest = ap (λ (t : Bool). cond t (as_id n ∷ filter (is_of_kind kind s) (map as_id (range_with_len (n + 1) (length rows)))) (filter (is_of_kind kind s) (map as_id (range_with_len (n + 1) (length rows))))) is
        ∙ ap (λ (l : List MetricId). cond u (as_id n ∷ l) l) rest

  pub made_listed : filter (is_of_kind kind s) (map as_id (range_with_len 0 (length s.metrics))) ≡ ids_from (λ m. same_kind m.kind kind) 0 (metrics_of s)
  made_listed = made_from 0 s.metrics (λ k. ap (slice_get s.metrics) (omega arith))

range_within : (n len : ℕ) → All (λ (id : MetricId). id.0 < n + len) (map as_id (range_with_len n len))
range_within n zero = All-nil (λ (id : MetricId). id.0 < n + 0)
range_within n (suc len) = All-cons (λ (id : MetricId). id.0 < n + suc len) (as_id n) (map as_id (range_with_len (n + 1) len)) (omega arith)
    (subst (λ (b : ℕ). All (λ (id : MetricId). id.0 < b) (map as_id (range_with_len (n + 1) len))) (omega arith) (range_within (n + 1) len))

-- each number is below the number of metrics
pub all_within : (len : ℕ) (ids : List MetricId) → ids ≡ map as_id (range_with_len 0 len) → All (λ (id : MetricId). id.0 < len) ids
all_within len ids are = subst (λ (l : List MetricId). All (λ (id : MetricId). id.0 < len) l) (sym are)
    (All-weaker (λ (id : MetricId). id.0 < 0 + len) (λ (id : MetricId). id.0 < len) (λ id low. omega (arith, low)) (map as_id (range_with_len 0 len)) (range_within 0 len))

-- and below that of a store
pub metrics_made : (book : BookHistory) (f : MetricId → Bool) (ids those : List MetricId) → IsLegal book → ids ≡ map as_id (range_with_len 0 (length (state_of book).metrics)) → those ≡ filter f ids → AreMetrics those
metrics_made book f ids those legal are filtered =
    let few = few_metrics book legal in
    subst AreMetrics (sym filtered) (All-filter f (λ (id : MetricId). id.0 < MAX_METRICS) ids
    (All-weaker (λ (id : MetricId). id.0 < length (state_of book).metrics) (λ (id : MetricId). id.0 < MAX_METRICS) (λ id low. omega (arith, low, few)) ids (all_within (length (state_of book).metrics) ids are)))
