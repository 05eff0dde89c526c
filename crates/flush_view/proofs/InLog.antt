-- The flushes of a ledger stand in its log.
use Rattle.std.proofs.Common.{◌≡◌, ◌==◌, ℕ, suc, List, [], ◌∷◌, length, take, slice_get, refl, ap, sym, ◌∙◌, subst}
use Rattle.std.specs.List.{AllByRecursion}
use Rattle.stat_defs.specs.declared.history.Call.TheVariants as call
use Rattle.stat_defs.specs.declared.history.Entry.{Entry}
use Rattle.stat_defs.specs.declared.ids.Kind.TheVariants.{Gauge}
use Rattle.stat_defs.specs.declared.reports.FlushRecord.{FlushRecord}
use Rattle.stat_defs.specs.declared.reports.Report.{Report}
use Rattle.book_state.specs.State.{NameRules}
use Rattle.book_state.specs.Log.{replay, Legal}
use Rattle.book_state.proofs.Lists.{get_within, map_some}
use Rattle.ledger.specs.Flushes.{Fits, ids_not_gone}
use Rattle.ledger.specs.Ledger.{RunPlan, HasHistory, Account}
use Rattle.ledger.specs.Lists.{EachNumbered}
use Rattle.ledger.specs.Segments.{segments_at}
use Rattle.ledger.specs.Work.{Work}
use Rattle.flush_view.specs.Laws.{IsInLog}
use Rattle.flush_view.specs.Views.{ends_in}
use Rattle.flush_view.proofs.Ends.{ends_of_workers}

pub one_each : (k w : ℕ) (workers : List Work) (flushes : List FlushRecord) → length (segments_at k w workers flushes) ≡ length workers
one_each k w [] flushes = refl
one_each k w (work ∷ workers) flushes = ap suc (one_each k (suc w) workers flushes)

in_log : (rules : NameRules) (log : List Entry) (workers : List Work) (all : List FlushRecord) (n k : ℕ) (flushes : List FlushRecord) → length workers ≡ ends_in log
    → EachNumbered (λ j flush. Fits rules log (suc j == n) (segments_at j 1 workers all) flush) k flushes → AllByRecursion (IsInLog rules log) flushes
in_log rules log workers all n k [] same each = tt
in_log rules log workers all n k (flush ∷ flushes) same each =
    let sweep = map_some (λ (e : Entry). e.call) (slice_get log flush.at) call.Sweep each.0.sweep in (
      record {
        within = get_within log flush.at sweep.0 sweep.1;
        gauges = each.0.gauges ∙ ap (λ m. ids_not_gone Gauge (replay rules m (take flush.at log))) (one_each k 1 workers all ∙ same);
      },
      in_log rules log workers all n (suc k) flushes same each.1,
    )

pub legal_with_ends : (plan : RunPlan) (workers : List Work) (report : Report) → HasHistory plan workers report
    → Legal plan.rules plan.scopes (ends_in report.log) report.log
legal_with_ends plan workers report history =
    subst (λ n. Legal plan.rules plan.scopes n report.log) (sym (ends_of_workers plan workers report history)) history.legal

pub flushes_in_log : (plan : RunPlan) (workers : List Work) (report : Report) → HasHistory plan workers report → Account plan workers report
    → AllByRecursion (IsInLog plan.rules report.log) report.flushes
flushes_in_log plan workers report history account =
    in_log plan.rules report.log workers report.flushes (length report.flushes) 0 report.flushes (sym (ends_of_workers plan workers report history)) account.flushes
