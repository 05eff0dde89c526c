-- The metrics that a view shows are members of the book, and what holds of their numbers holds of the rows.
use Rattle.std.proofs.Common.{◌≡◌, ℕ, ◌+◌, ◌&&◌, cond, Bool, true, false, List, [], ◌∷◌, sym, subst}
use Rattle.std.specs.Prelude.{filter}
use Rattle.std.specs.List.{enumerate_from, AllByRecursion}
use Rattle.stat_defs.specs.declared.ids.Kind.{Kind}
use Rattle.stat_defs.specs.declared.ids.Kind.TheVariants.{Counter}
use Rattle.stat_defs.specs.declared.ids.MetricId.{MetricId}
use Rattle.stat_defs.specs.declared.metrics.Metric.{Metric}
use Rattle.stat_defs.specs.declared.reports.Report.{Report}
use Rattle.stat_defs.specs.Keys.{same_kind}
use Rattle.book_state.specs.State.{State, metrics_of, ids_from}
use Rattle.book_state.specs.Log.{replay}
use Rattle.ledger.specs.Flushes.{ids_made, flushed}
use Rattle.ledger.specs.Ledger.{RunPlan, HasHistory, Account}
use Rattle.ledger.specs.Work.{Work, units_of}
use Rattle.flush_view.specs.ByName.{comes_before, put_by_name, by_name}
use Rattle.flush_view.specs.Views.{NumberedMetric, row_name, metrics_shown, last_state}
use Rattle.flush_view.proofs.Ends.{ends_of_workers}

module _ {X : Type 0} (P : X → Type 0) (name : X → List ℕ) where
  put_all : (x : X) (ys : List X) → P x → AllByRecursion P ys → AllByRecursion P (put_by_name name x ys)
  put_all x [] one all = (one, tt)
  put_all x (y ∷ ys) one all = by_case (comes_before name y x) (put_all x ys one all.1) where
    by_case : (b : Bool) → AllByRecursion P (put_by_name name x ys)
        → AllByRecursion P (cond b (y ∷ put_by_name name x ys) (x ∷ y ∷ ys))
    by_case true rest = (all.0, rest)
    by_case false rest = (one, all)

  -- what holds of all members holds of them in their order
  sorted_all : (xs : List X) → AllByRecursion P xs → AllByRecursion P (by_name name xs)
  sorted_all [] all = tt
  sorted_all (x ∷ xs) all = put_all x (by_name name xs) all.0 (sorted_all xs all.1)

module _ (Q : ℕ → Type 0) (kind : Kind) (passes : ℕ → Bool) where
  abbrev shown : NumberedMetric → Bool
  shown numbered = same_kind numbered.1.kind kind && passes numbered.0

  of_kind : (id : ℕ) (metrics : List Metric) → AllByRecursion (λ (i : MetricId). Q i.0) (ids_from (λ metric. same_kind metric.kind kind) id metrics)
      → AllByRecursion (λ (numbered : NumberedMetric). Q numbered.0) (filter shown (enumerate_from id metrics))
  of_kind id [] all = tt
  of_kind id (metric ∷ metrics) all =
      by_case (same_kind metric.kind kind) (passes id) (of_kind (id + 1) metrics) all where
        by_case : (a b : Bool)
            → (AllByRecursion (λ (i : MetricId). Q i.0) (ids_from (λ m. same_kind m.kind kind) (id + 1) metrics)
            → AllByRecursion (λ (numbered : NumberedMetric). Q numbered.0) (filter shown (enumerate_from (id + 1) metrics)))
            → AllByRecursion (λ (i : MetricId). Q i.0)
            (cond a (record { 0 = id } ∷ ids_from (λ m. same_kind m.kind kind) (id + 1) metrics) (ids_from (λ m. same_kind m.kind kind) (id + 1) metrics))
            → AllByRecursion (λ (numbered : NumberedMetric). Q numbered.0)
            (cond (a && b) ((id, metric) ∷ filter shown (enumerate_from (id + 1) metrics)) (filter shown (enumerate_from (id + 1) metrics)))
        by_case true true rest have = (have.0, rest have.1)
        by_case true false rest have = rest have.1
        by_case false b rest have = rest have

  all_shown : (s : State) → AllByRecursion (λ (i : MetricId). Q i.0) (ids_made kind s)
      → AllByRecursion (λ (numbered : NumberedMetric). Q numbered.0) (metrics_shown kind passes s)
  all_shown s all =
      sorted_all (λ (numbered : NumberedMetric). Q numbered.0) row_name (filter shown (enumerate_from 0 (metrics_of s)))
      (of_kind 0 (metrics_of s) all)

pub last_totals : (plan : RunPlan) (workers : List Work) (report : Report) (passes : ℕ → Bool)
    → HasHistory plan workers report → Account plan workers report
    → AllByRecursion (λ (numbered : NumberedMetric). flushed numbered.0 report.flushes ≡ units_of numbered.0 workers)
    (metrics_shown Counter passes (last_state plan.rules report.log))
last_totals plan workers report passes history account =
    all_shown (λ id. flushed id report.flushes ≡ units_of id workers) Counter passes (last_state plan.rules report.log)
    (subst (λ n. AllByRecursion (λ (i : MetricId). flushed i.0 report.flushes ≡ units_of i.0 workers) (ids_made Counter (replay plan.rules n report.log)))
    (sym (ends_of_workers plan workers report history)) account.units)
