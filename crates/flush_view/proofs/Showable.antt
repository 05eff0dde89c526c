-- The ledger of a run or a replay can be shown.
use Rattle.std.proofs.Common.{◌≡◌, ◌==◌, ◌≤◌, ◌<◌, ◌*◌, ◌^◌, ℕ, suc, Option, List, [], ◌∷◌, map, length, take, get_or, refl, ap, sym, subst, arith, ⊎_elim}
use Rattle.std.specs.List.{flat_map, AllByRecursion}
use Rattle.std.specs.List.Sorted.{IsStrictlyIncreasing, IsNonDecreasing}
use Rattle.std.proofs.lemmas.Bool.{cases_eq}
use Rattle.std.proofs.lemmas.List.{length-map}
use Rattle.std.proofs.lemmas.List.Elements.{recursion_from_All}
use Rattle.std.proofs.lemmas.List.Kept.{AllPairs-from_increasing}
use Rattle.stat_defs.specs.declared.configs.Config.{Config}
use Rattle.stat_defs.specs.declared.configs.ScopeSpec.{ScopeSpec}
use Rattle.stat_defs.specs.declared.events.Event.{Event}
use Rattle.stat_defs.specs.declared.history.Verdict.{Verdict}
use Rattle.stat_defs.specs.declared.ids.Kind.TheVariants.{Counter}
use Rattle.stat_defs.specs.declared.ids.MetricId.{MetricId}
use Rattle.stat_defs.specs.declared.reports.FlushRecord.{FlushRecord}
use Rattle.stat_defs.specs.declared.reports.Part.{Part}
use Rattle.stat_defs.specs.declared.reports.Report.{Report}
use Rattle.stat_defs.specs.Configs.{IsConfig, IsScopeSpec}
use Rattle.loglinear_bins.specs.declared.place.TheConstants.{MAX_COUNT}
use Rattle.loglinear_bins.specs.Counts.{AreBinsOf}
use Rattle.book_state.specs.declared.limits.TheConstants.{MAX_WORKERS}
use Rattle.book_state.specs.Log.{replay, Legal}
use Rattle.book_state.specs.State.{NameRules}
use Rattle.ledger.specs.Flushes.{Fits, ids_made, counters_shown, id_of_delta, flushed}
use Rattle.ledger.specs.Ledger.{RunPlan, AreRead, Account, IsReportOf, RunLedger, ReplayLedger, plan_of, last_flush_alone}
use Rattle.ledger.specs.Lists.{EachNumbered}
use Rattle.ledger.specs.Segments.{segments_at}
use Rattle.ledger.specs.Work.{Work, apart, together, units_of}
use Rattle.ledger.proofs.WorkLists.{lengths}
use Rattle.flush_view.specs.Showing.{HasLawfulParts, IsShowable, LedgersShow, values_taken}
use Rattle.flush_view.specs.Views.{ends_in, parts_on, merged_parts, view_rules}
use Rattle.flush_view.proofs.BinsShown.{flushes_lawful}
use Rattle.flush_view.proofs.Countings.{total_of_values, total_merged}
use Rattle.flush_view.proofs.CallsLawful.{calls_lawful}
use Rattle.flush_view.proofs.Ends.{ends_of_workers}
use Rattle.flush_view.proofs.CountersMade.{OfMade, deltas_made, each_flushed}
use Rattle.flush_view.proofs.Cumulative.{cumulative}
use Rattle.flush_view.proofs.FileEvents.{AreOfFile, files_few}
use Rattle.flush_view.proofs.InLog.{one_each, legal_with_ends}
use Rattle.flush_view.proofs.LawfulParts.{segments_fit, lawful_parts}
use Rattle.flush_view.proofs.Recorded.{AreBounded, events_of, events_in_files, apart_bounded, together_bounded, all_units_few, values_of, all_values_fit, all_values_few}
use Rattle.loglinear_bins.proofs.MergedBins.{sums_rise}

pub never_falls : (xs : List ℕ) → IsStrictlyIncreasing xs → IsNonDecreasing xs
never_falls xs rising i j d low within = ⊎_elim
    (λ same. omega (arith, ap (λ (k : ℕ). get_or xs k d) same))
    (λ apart. let below = AllPairs-from_increasing xs rising i j d (omega (arith, low, apart)) within in
    omega (arith, below))
    (cases_eq i j)

-- as many events as so many files may have are fewer than are counted, and their units than a counter holds
few_units : (units events : ℕ) → units ≤ events * 2 ^ 32 → events ≤ events_in_files MAX_WORKERS → units < 2 ^ 63
few_units units events each few = omega (arith, each, few)

few_values : (values events : ℕ) → values ≤ events → events ≤ events_in_files MAX_WORKERS → values ≤ MAX_COUNT
few_values values events each few = omega (arith, each, few)

module _ (plan : RunPlan) (workers : List Work) (report : Report) (account : Account plan workers report)
    (bounded : AreBounded (events_in_files MAX_WORKERS) workers) where
  abbrev counted : ℕ → ℕ → FlushRecord → Type 0
  counted n k flush = Fits plan.rules report.log (suc k == n) (segments_at k 1 workers report.flushes) flush

  -- parts are lawful, and deltas are of counters that were made
  each_fits : (n k : ℕ) (flushes : List FlushRecord) → EachNumbered (counted n) k flushes
      → AllByRecursion HasLawfulParts flushes × AllByRecursion (OfMade plan.rules (length workers) report.log) flushes
  each_fits n k [] each = (tt, tt)
  each_fits n k (flush ∷ flushes) each =
      let segs = segments_at k 1 workers report.flushes in
      let rest = each_fits n (suc k) flushes each.1 in
      let shown = subst (λ (m : ℕ). map id_of_delta flush.deltas
      ≡ counters_shown (suc k == n) (replay plan.rules m (take flush.at report.log)) (replay plan.rules m report.log))
      (one_each k 1 workers report.flushes) each.0.deltas in (
        (lawful_parts segs (segments_fit k 1 workers report.flushes bounded.lawful) flush each.0.parts, rest.0),
        (deltas_made plan.rules (length workers) report.log (suc k == n) flush shown, rest.1),
      )

  all_fit : AllByRecursion HasLawfulParts report.flushes
      × AllByRecursion (OfMade plan.rules (length workers) report.log) report.flushes
  all_fit = each_fits (length report.flushes) 0 report.flushes account.flushes

  pub units : (id : ℕ) → flushed id report.flushes < 2 ^ 63
  units id = each_flushed plan.rules (length workers) report.log (λ n. n < 2 ^ 63) report.flushes all_fit.1
      (few_each (ids_made Counter (replay plan.rules (length workers) report.log)) account.units) (omega arith) id where
        few_each : (ids : List MetricId) → AllByRecursion (λ i. flushed i.0 report.flushes ≡ units_of i.0 workers) ids
            → AllByRecursion (λ (i : MetricId). flushed i.0 report.flushes < 2 ^ 63) ids
        few_each [] same = tt
        few_each (i ∷ ids) same =
            let each = all_units_few i.0 workers bounded.lawful in
            let few = few_units (units_of i.0 workers) (events_of workers) each bounded.few in
            let is = same.0 in
            (omega (arith, few, is), few_each ids same.1)

  pub values : (id : ℕ) → values_taken id report.flushes ≤ MAX_COUNT
  values id =
      let parts : List Part = flat_map (parts_on id) report.flushes in
      let lawful = (sums_rise parts (flushes_lawful id report.flushes all_fit.0)).lawful in
      let are : AreBinsOf (merged_parts parts) (values_of id workers) =
      record { each = λ bin. cumulative id bin plan workers report account } in
      let taken = total_merged parts in
      let fit = all_values_fit id workers bounded.lawful in
      let count = total_of_values (merged_parts parts) (values_of id workers) lawful fit are in
      let each = all_values_few id workers in
      let few = few_values (length (values_of id workers)) (events_of workers) each bounded.few in
      omega (arith, taken, count, few)

  pub lawful : AllByRecursion HasLawfulParts report.flushes
  lawful = all_fit.0

same_count : (events : List (List Event)) (verdicts : List (List Verdict)) → lengths verdicts ≡ lengths events
    → length events ≡ length verdicts
same_count events verdicts same =
    let one = length-map verdicts (λ (vs : List Verdict). length vs) in
    let other = length-map events (λ (es : List Event). length es) in
    let long = ap (λ (l : List ℕ). length l) same in
    omega (arith, one, other, long)

apart_few : (events : List (List Event)) (verdicts : List (List Verdict))
    → length (apart events verdicts) ≤ length events
apart_few [] verdicts = omega arith
apart_few (es ∷ events) [] = omega arith
apart_few (es ∷ events) (vs ∷ verdicts) = let rest = apart_few events verdicts in omega (arith, rest)

module _ (config : Config) (contents : List (Option (List ℕ))) (events : List (List Event)) (report : Report)
    (lawful_config : IsConfig config) (few : length contents ≤ MAX_WORKERS) where
  pub files : AreRead contents events report → AllByRecursion AreOfFile events × (length events ≡ length contents)
  files read =
      let ends = read.an_end_each in
      let verdicts = read.verdicts_each in
      let same = same_count events report.verdicts read.a_verdict_each in
      let long : length events ≡ length report.ends = omega (arith, ends, verdicts, same) in
      (files_few contents report.ends events long read.read, omega (arith, verdicts, same))

  showable : (plan : RunPlan) (workers : List Work) → plan.rules ≡ (view_rules config).names
      → plan.scopes ≡ config.scopes
      → length workers ≤ MAX_WORKERS → AreBounded (events_in_files MAX_WORKERS) workers
      → IsReportOf contents events plan workers report
      → IsShowable config report
  showable plan workers rules scopes number bounded is = record {
    legal = subst (λ (s : List ScopeSpec). Legal (view_rules config).names s (ends_in report.log) report.log) scopes
        (subst (λ (r : NameRules). Legal r plan.scopes (ends_in report.log) report.log) rules
        (legal_with_ends plan workers report is.history));
    workers = subst (λ (n : ℕ). n ≤ MAX_WORKERS) (sym (ends_of_workers plan workers report is.history)) number;
    calls = calls_lawful plan workers report
        (subst (λ (s : List ScopeSpec). AllByRecursion IsScopeSpec s) (sym scopes)
        (recursion_from_All IsScopeSpec config.scopes lawful_config.scopes.each))
        bounded.lawful is.history;
    rising = never_falls (map (λ flush. flush.at) report.flushes) is.swept.rising;
    units = units plan workers report is.account bounded;
    lawful = lawful plan workers report is.account bounded;
    values = values plan workers report is.account bounded;
  }

  pub bounded : (workers : List Work) → length events ≡ length contents
      → AreBounded (events_in_files (length events)) workers
      → AreBounded (events_in_files MAX_WORKERS) workers
  bounded workers same files =
      let fewer = files.few in
      record { lawful = files.lawful; few = omega (arith, same, few, fewer) }

  few_apart : (es : List (List Event)) (vs : List (List Verdict)) → length es ≡ length contents
      → length (apart es vs) ≤ MAX_WORKERS
  few_apart es vs same = let fewer = apart_few es vs in omega (arith, few, same, fewer)

  pub run_shows : RunLedger contents events (plan_of config) report → IsShowable config report
  run_shows is =
      let read = files is.read in
      showable (plan_of config) (apart events report.verdicts) refl refl (few_apart events report.verdicts read.1)
      (bounded (apart events report.verdicts) read.1 (apart_bounded events report.verdicts read.0)) is

  pub replay_shows : ReplayLedger contents events (plan_of config) report → IsShowable config report
  replay_shows is =
      let read = files is.read in
      showable (last_flush_alone (plan_of config)) (together events report.verdicts) refl refl (omega arith)
      (bounded (together events report.verdicts) read.1 (together_bounded events report.verdicts read.0)) is

pub ledgers_show : LedgersShow
ledgers_show = record {
  run = λ config contents events report lawful few is. run_shows config contents events report lawful few is;
  replay = λ config contents events report lawful few is. replay_shows config contents events report lawful few is;
}
