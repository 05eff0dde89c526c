-- The reports of a run and of a replay with one flush have room for all their histograms together.
use Rattle.std.proofs.Common.{◌≡◌, ◌≤◌, ◌*◌, ◌&&◌, ℕ, Option, List, map, length, take, ap, sym, subst, arith}
use Rattle.std.proofs.lemmas.List.{length-map, take_all}
use Rattle.std.proofs.lemmas.List.FromFn.{length-enumerate_from}
use Rattle.std.specs.Prelude.{slice_get}
use Rattle.stat_defs.specs.Configs.{IsConfig}
use Rattle.stat_defs.specs.declared.configs.Config.{Config}
use Rattle.stat_defs.specs.declared.events.Event.{Event}
use Rattle.stat_defs.specs.declared.ids.Kind.TheVariants.{Histogram}
use Rattle.stat_defs.specs.Keys.{same_kind}
use Rattle.stat_defs.specs.declared.reports.FlushRecord.{FlushRecord}
use Rattle.stat_defs.specs.declared.reports.Report.{Report}
use Rattle.stat_defs.specs.declared.views.FlushView.{FlushView}
use Rattle.loglinear_bins.specs.declared.place.TheConstants.{MAX_COUNT}
use Rattle.book_state.specs.declared.limits.TheConstants.{MAX_METRICS, MAX_WORKERS}
use Rattle.book_state.specs.State.{NameRules, State, Row, metrics_of}
use Rattle.book_state.specs.Log.{empty, replay}
use Rattle.book_state.proofs.Lists.{map_some}
use Rattle.book_state.proofs.Safety.{run_kept_all, empty_run}
use Rattle.ledger.specs.Ledger.{RunPlan, Account, RunLedger, ReplayLedger, plan_of, last_flush_alone}
use Rattle.ledger.specs.Work.{Work, apart, together}
use Rattle.flush_view.specs.Showing.{IsShowable}
use Rattle.flush_view.specs.Views.{NumberedMetric, view_rules, view_of, ends_in, state_before, last_state, has_histogram_row, histogram_row, metrics_shown, numbered_metrics, row_name}
use Rattle.flush_view.proofs.Recorded.{AreBounded, events_in_files, apart_bounded, together_bounded}
use Rattle.flush_view.proofs.Showable.{ledgers_show, files, bounded}
use Rattle.load_text.specs.Summary as summary
use Rattle.load_text.specs.Summarized.{HasRoom}
use Rattle.load_text.proofs.Room.{rows_few, few_rows}

-- no report has more metrics than the limit
few_metrics : (config : Config) (report : Report) → IsShowable config report
    → length (numbered_metrics (last_state (view_rules config).names report.log)) ≤ MAX_METRICS
few_metrics config report showable =
    let rules : NameRules = (view_rules config).names in
    let last : State = last_state rules report.log in
    let kept = run_kept_all rules (empty (ends_in report.log)) report.log (empty_run (ends_in report.log)) showable.legal.steps in
    let few = kept.few in
    let numbered = length-enumerate_from 0 (metrics_of last) in
    let same = length-map last.metrics (λ (row : Row). row.metric) in
    omega (arith, few, numbered, same)

product_few : (values rows most : ℕ) → values ≤ rows * 4194304 → rows ≤ most → most ≤ MAX_METRICS → values ≤ MAX_COUNT
product_few values rows most each few fewer = omega (arith, each, few, fewer)

module _ (config : Config) (report : Report) (showable : IsShowable config report) (one : length report.flushes ≡ 1) where
  pub has_room : (plan : RunPlan) (workers : List Work) → Account plan workers report
      → AreBounded (events_in_files MAX_WORKERS) workers → HasRoom config report
  has_room plan workers account bounded shown is =
      let rules = view_rules config in
      let so_far : List FlushRecord = take 1 report.flushes in
      let found = map_some (λ (flush : FlushRecord). view_of rules report.log flush so_far) (slice_get report.flushes 0) shown is in
      let flush : FlushRecord = found.0 in
      let last : State = last_state rules.names report.log in
      let before : State = state_before rules.names report.log flush in
      let rows : List NumberedMetric = metrics_shown Histogram (has_histogram_row before flush) last in
      let all : so_far ≡ report.flushes = take_all 1 report.flushes (omega (arith, one)) in
      let each = rows_few plan workers report account bounded flush rules.bounds rows in
      let few = few_rows row_name
      (λ (numbered : NumberedMetric). same_kind numbered.1.kind Histogram && has_histogram_row before flush numbered.0)
      (numbered_metrics last) in
      let fit = product_few (summary.values_of (map (histogram_row rules.bounds flush report.flushes) rows)) (length rows)
      (length (numbered_metrics last)) each few (few_metrics config report showable) in
      subst (λ (v : FlushView). summary.values_of v.histograms ≤ MAX_COUNT) (sym found.2)
      (subst (λ (fs : List FlushRecord). summary.values_of (map (histogram_row rules.bounds flush fs) rows) ≤ MAX_COUNT) (sym all) fit)

module _ (config : Config) (contents : List (Option (List ℕ))) (events : List (List Event)) (report : Report)
    (lawful : IsConfig config) (few : length contents ≤ MAX_WORKERS) where
  pub run_has_room : config.flushes ≡ 0 → RunLedger contents events (plan_of config) report → HasRoom config report
  run_has_room none is =
      let read = files config contents events report lawful few is.read in
      let number = is.swept.number in
      has_room config report (ledgers_show.run config contents events report lawful few is) (omega (arith, number, none))
      (plan_of config) (apart events report.verdicts) is.account
      (bounded config contents events report lawful few (apart events report.verdicts) read.1 (apart_bounded events report.verdicts read.0))

  pub replay_has_room : ReplayLedger contents events (plan_of config) report → HasRoom config report
  replay_has_room is =
      let read = files config contents events report lawful few is.read in
      let number = is.swept.number in
      has_room config report (ledgers_show.replay config contents events report lawful few is) (omega (arith, number))
      (last_flush_alone (plan_of config)) (together events report.verdicts) is.account
      (bounded config contents events report lawful few (together events report.verdicts) read.1 (together_bounded events report.verdicts read.0))
