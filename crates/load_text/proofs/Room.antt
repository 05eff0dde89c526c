-- All histograms of a view have together no more values than are counted.
use Rattle.std.proofs.Common.{◌≡◌, ◌==◌, ◌&&◌, ◌≤◌, ◌<◌, ◌+◌, ◌*◌, ℕ, suc, Bool, true, false, cond, Option, Some, List, [], ◌∷◌, map, filter, length, take, refl, ap, sym, ◌∙◌, subst, arith, sum_by, fold, ◌^◌}
use Rattle.std.specs.List.{flat_map, AllByRecursion}
use Rattle.std.proofs.lemmas.List.Sums.{sum_by-cons}
use Rattle.std.proofs.lemmas.List.Elements.{All-from_recursion}
use Rattle.stat_defs.specs.declared.bins.Bound.{Bound}
use Rattle.stat_defs.specs.declared.bins.BinCount.{BinCount}
use Rattle.stat_defs.specs.declared.reports.FlushRecord.{FlushRecord}
use Rattle.stat_defs.specs.declared.reports.Part.{Part}
use Rattle.stat_defs.specs.declared.reports.Report.{Report}
use Rattle.stat_defs.specs.declared.views.HistRow.{HistRow}
use Rattle.loglinear_bins.specs.Bins.{bin_of_value}
use Rattle.loglinear_bins.specs.Counts.{AreBinsOf, IsBinList, added, bins_of, total}
use Rattle.loglinear_bins.proofs.Adding.{total-added}
use Rattle.loglinear_bins.proofs.SameBins.{same_bins}
use Rattle.loglinear_bins.proofs.Values.{AreBinsOf-bins_of, IsBinList-bins_of}
use Rattle.loglinear_bins.proofs.MergedBins.{sums_rise}
use Rattle.book_state.specs.declared.limits.TheConstants.{MAX_WORKERS}
use Rattle.ledger.specs.Ledger.{RunPlan, Account}
use Rattle.ledger.specs.Work.{Work}
use Rattle.flush_view.specs.ByName.{by_name}
use Rattle.flush_view.specs.Views.{NumberedMetric, histogram_row, parts_on, merged_parts}
use Rattle.flush_view.proofs.BinsShown.{flushes_lawful}
use Rattle.flush_view.proofs.Cumulative.{cumulative}
use Rattle.flush_view.proofs.Recorded.{AreBounded, events_of, events_in_files, values_of, all_values_fit, all_values_few}
use Rattle.flush_view.proofs.Showable.{lawful}
use Rattle.flush_view.proofs.Viewing.{length-by_name}
use Rattle.load_text.specs.Summary as summary

fewer : {X : Type 0} (p : X → Bool) (xs : List X) → length (filter p xs) ≤ length xs
fewer p [] = omega arith
fewer p (x ∷ xs) = by_case (p x) (fewer p xs) where
  by_case : (b : Bool) → length (filter p xs) ≤ length xs → length (cond b (x ∷ filter p xs) (filter p xs)) ≤ suc (length xs)
  by_case true rest = omega (arith, rest)
  by_case false rest = omega (arith, rest)

-- the rows of a kind are no more than the metrics
pub few_rows : {X : Type 0} (name : X → List ℕ) (p : X → Bool) (xs : List X) → length (by_name name (filter p xs)) ≤ length xs
few_rows name p xs = let a = length-by_name name (filter p xs) in let b = fewer p xs in omega (arith, a, b)

-- a list of bins has as many values as it counts
counted_from : (counts : List BinCount) (values : List ℕ) → total (fold (λ cs v. added cs (bin_of_value v) 1) counts values) ≡ total counts + length values
counted_from counts [] = omega arith
counted_from counts (v ∷ values) = let more = counted_from (added counts (bin_of_value v) 1) values in let one = total-added counts (bin_of_value v) 1 in omega (arith, more, one)

as_many : (counts : List BinCount) (values : List ℕ) → IsBinList counts → AllByRecursion (λ v. v < 2 ^ 64) values → AreBinsOf counts values → total counts ≡ length values
as_many counts values rise fit are =
    let same : counts ≡ bins_of values = same_bins counts (bins_of values) rise (IsBinList-bins_of values (All-from_recursion (λ v. v < 2 ^ 64) values fit))
    (λ bin. are.each bin ∙ sym ((AreBinsOf-bins_of values).each bin)) in
    let whole = counted_from [] values in let e = ap total same in omega (arith, e, whole)

module _ (plan : RunPlan) (workers : List Work) (report : Report) (account : Account plan workers report)
    (bounded : AreBounded (events_in_files MAX_WORKERS) workers) where
  few_values : (id : ℕ) → total (merged_parts (flat_map (parts_on id) report.flushes)) ≤ events_of workers
  few_values id =
      let parts : List Part = flat_map (parts_on id) report.flushes in
      let rise = sums_rise parts (flushes_lawful id report.flushes (lawful plan workers report account bounded)) in
      let count = as_many (merged_parts parts) (values_of id workers) rise (all_values_fit id workers bounded.lawful)
      (record { each = λ bin. cumulative id bin plan workers report account }) in
      let each = all_values_few id workers in omega (arith, count, each)

  -- so have the rows of these metrics together
  pub rows_few : (flush : FlushRecord) (bounds : List ℕ → List Bound) (rows : List NumberedMetric)
      → summary.values_of (map (histogram_row bounds flush report.flushes) rows) ≤ length rows * 4194304
  rows_few flush bounds [] = omega arith
  rows_few flush bounds (row ∷ rows) =
      let rest = rows_few flush bounds rows in let few = few_values row.0 in let most = bounded.few in
      let whole = sum_by-cons (λ (r : HistRow). total r.cumulative) (histogram_row bounds flush report.flushes row) (map (histogram_row bounds flush report.flushes) rows) in
      omega (arith, rest, few, most, whole)
