-- The numbers of metrics.
use Rattle.std.proofs.Common.{◌+◌, ◌<◌, ℕ, cond, Bool, true, false, List, [], ◌∷◌, length, arith}
use Rattle.std.specs.List.{AllByRecursion}
use Rattle.stat_defs.specs.declared.ids.MetricId.{MetricId}
use Rattle.stat_defs.specs.declared.metrics.Metric.{Metric}
use Rattle.book_state.specs.State.{ids_from}

-- what holds of all numbers below holds of those that are listed from n on
pub ids_between : (holds : Metric → Bool) (P : ℕ → Type 0) (n : ℕ) (metrics : List Metric) → ((k : ℕ) → k < n + length metrics → P k)
    → AllByRecursion (λ (id : MetricId). P id.0) (ids_from holds n metrics)
ids_between holds P n [] f = tt
ids_between holds P n (m ∷ metrics) f =
    by_case (holds m) (ids_between holds P (n + 1) metrics (λ k below. f k (omega (arith, below)))) where
      by_case : (t : Bool) → AllByRecursion (λ (id : MetricId). P id.0) (ids_from holds (n + 1) metrics)
          → AllByRecursion (λ (id : MetricId). P id.0) (cond t (record { 0 = n } ∷ ids_from holds (n + 1) metrics) (ids_from holds (n + 1) metrics))
      by_case true rest = (f n (omega arith), rest)
      by_case false rest = rest
