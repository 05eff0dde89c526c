-- Lists of metrics by their kind.
use Rattle.std.proofs.Common.{◌≡◌, ℕ, suc, ◌+◌, ◌<◌, ◌≤◌, Bool, true, false, not, cond, List, [], ◌∷◌, length, filter, All, sym, subst, arith, Result, Ok, Err, IfOk, refl}
use Rattle.std.proofs.lemmas.List.{length-map}
use Rattle.std.proofs.lemmas.List.Elements.{All-cons, All-nil, All-weaker, All-filter}
use Rattle.stat_defs.specs.Books.{BookHistory}
use Rattle.stat_defs.specs.declared.ids.MetricId.{MetricId}
use Rattle.stat_defs.specs.declared.metrics.Metric.{Metric}
use Rattle.book_state.specs.declared.limits.TheConstants.{MAX_METRICS}
use Rattle.book_state.specs.State.{State, Row, ids_from, names_in, is_gone, metrics_of}
use Rattle.book_state.specs.Log.{empty}
use Rattle.book_state.proofs.Safety.{run_kept_all, empty_run}
use Rattle.stat_book.specs.Calls.{rules_of, state_of, IsLegal}
use Rattle.locked_book.specs.declared.listing.Listing.{Listing}
use Rattle.locked_book.specs.Lists.{AreMetrics, Lists, ListsNames}

ids_within : (p : Metric → Bool) (n : ℕ) (ms : List Metric) → All (λ (id : MetricId). id.0 < n + length ms) (ids_from p n ms)
ids_within p n [] = All-nil (λ (id : MetricId). id.0 < n + 0)
ids_within p n (m ∷ ms) = by_case (p m) (subst (λ (b : ℕ). All (λ (id : MetricId). id.0 < b) (ids_from p (n + 1) ms)) (omega arith) (ids_within p (n + 1) ms)) where
  by_case : (t : Bool) → All (λ (id : MetricId). id.0 < n + suc (length ms)) (ids_from p (n + 1) ms)
      → All (λ (id : MetricId). id.0 < n + suc (length ms)) (cond t (record { 0 = n } ∷ ids_from p (n + 1) ms) (ids_from p (n + 1) ms))
  by_case true rest = All-cons (λ (id : MetricId). id.0 < n + suc (length ms)) (record { 0 = n }) (ids_from p (n + 1) ms) (omega arith) rest
  by_case false rest = rest

same : (a b : ℕ) → a ≡ b → 0 + a ≡ b
same a b is = omega (arith, is)

-- the metrics that are not gone were made
pub names_within : (s : State) (ids : List MetricId) → ids ≡ names_in s → All (λ (id : MetricId). id.0 < length s.metrics) ids
names_within s ids is = subst (λ (l : List MetricId). All (λ (id : MetricId). id.0 < length s.metrics) l) (sym is)
    (subst (λ (n : ℕ). All (λ (id : MetricId). id.0 < n) (names_in s)) (let l = length-map s.metrics (λ (row : Row). row.metric) in same (length (metrics_of s)) (length s.metrics) l) (ids_within (λ (m : Metric). not (is_gone m.life)) 0 (metrics_of s)))

-- as many metrics were made as a store may have, or fewer
pub few_metrics : (book : BookHistory) → IsLegal book → length (state_of book).metrics ≤ MAX_METRICS
few_metrics book legal = (run_kept_all (rules_of book) (empty book.workers) book.log (empty_run book.workers) legal.steps).few

-- the listed metrics, whichever of them are taken, are those of a store
pub metrics_listed : (book : BookHistory) (f : MetricId → Bool) (ids those : List MetricId) → IsLegal book → ids ≡ names_in (state_of book) → those ≡ filter f ids → AreMetrics those
metrics_listed book f ids those legal is filtered =
    let few = few_metrics book legal in
    subst AreMetrics (sym filtered) (All-filter f (λ (id : MetricId). id.0 < MAX_METRICS) ids
    (All-weaker (λ (id : MetricId). id.0 < length (state_of book).metrics) (λ (id : MetricId). id.0 < MAX_METRICS) (λ id low. omega (arith, low, few)) ids (names_within (state_of book) ids is)))

pub lists_names : {E : Type 0} (r : Result Listing E) (seat : ℕ) (book : BookHistory) → IfOk r (λ listing. Lists listing book) → IfOk r (λ listing. ListsNames listing seat book book)
lists_names (Ok x) seat book lists = record { lists = lists; same = refl }
lists_names (Err x) seat book lists = tt
