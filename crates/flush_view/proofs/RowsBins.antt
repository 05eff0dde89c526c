-- The bins of each row of histograms are as the texts ask.
use Rattle.std.proofs.Common.{◌≡◌, ◌≤◌, ℕ, zero, suc, Some, List, [], ◌∷◌, All, take, get_or, slice_get, sym, subst, arith}
use Rattle.std.specs.Prelude.{sum_by}
use Rattle.std.specs.List.{flat_map, AllByRecursion}
use Rattle.std.proofs.lemmas.List.Elements.{All-map}
use Rattle.std.proofs.lemmas.List.Sums.{sum_by-append}
use Rattle.stat_defs.specs.declared.bins.Bound.{Bound}
use Rattle.stat_defs.specs.declared.ids.Kind.TheVariants.{Histogram}
use Rattle.stat_defs.specs.declared.reports.FlushRecord.{FlushRecord}
use Rattle.stat_defs.specs.declared.reports.Part.{Part}
use Rattle.stat_defs.specs.declared.views.FlushView.{FlushView}
use Rattle.loglinear_bins.specs.declared.place.TheConstants.{MAX_COUNT}
use Rattle.loglinear_bins.specs.Counts.{total}
use Rattle.book_state.specs.State.{State}
use Rattle.book_state.proofs.Lists.{map_some, not_some, some_same}
use Rattle.flush_view.specs.Showing.{HasLawfulParts, AreBinsShown, HasBinsShown, ViewsHaveBins, values_taken}
use Rattle.flush_view.specs.Views.{NumberedMetric, view_rules, state_before, last_state, metrics_shown, has_histogram_row, histogram_row, parts_on, merged_parts, view_of}
use Rattle.flush_view.proofs.BinsShown.{AllLawful, flush_lawful, flushes_lawful}
use Rattle.flush_view.proofs.Countings.{total_merged}
use Rattle.flush_view.proofs.Following.{AreCountable, countable}
use Rattle.loglinear_bins.proofs.MergedBins.{sums_rise}

abbrev values_of_part : Part → ℕ
values_of_part part = total part.bins

abbrev values_in : List Part → ℕ
values_in parts = sum_by values_of_part parts

bins_shown : (parts : List Part) (most : ℕ) → AllLawful parts → values_in parts ≤ most → most ≤ MAX_COUNT
    → AreBinsShown (merged_parts parts)
bins_shown parts most lawful few fewer =
    let count = total_merged parts in
    record { list = sums_rise parts lawful; limit = omega (arith, count, few, fewer) }

front_lawful : (n : ℕ) (flushes : List FlushRecord) → AllByRecursion HasLawfulParts flushes
    → AllByRecursion HasLawfulParts (take n flushes)
front_lawful zero flushes lawful = tt
front_lawful (suc n) [] lawful = tt
front_lawful (suc n) (flush ∷ flushes) lawful = (lawful.0, front_lawful n flushes lawful.1)

member_lawful : (k : ℕ) (flush : FlushRecord) (flushes : List FlushRecord) → slice_get flushes k ≡ Some flush
    → AllByRecursion HasLawfulParts flushes
    → HasLawfulParts flush
member_lawful k flush [] there lawful = absurd (not_some flush there)
member_lawful zero flush (one ∷ flushes) there lawful = subst HasLawfulParts (some_same one flush there) lawful.0
member_lawful (suc k) flush (one ∷ flushes) there lawful = member_lawful k flush flushes there lawful.1

module _ (id : ℕ) where
  front_few : (n : ℕ) (flushes : List FlushRecord) → values_taken id (take n flushes) ≤ values_taken id flushes
  front_few zero flushes = omega arith
  front_few (suc n) [] = omega arith
  front_few (suc n) (flush ∷ flushes) =
      let rest = front_few n flushes in
      let front = sum_by-append values_of_part (parts_on id flush) (flat_map (parts_on id) (take n flushes)) in
      let whole = sum_by-append values_of_part (parts_on id flush) (flat_map (parts_on id) flushes) in
      omega (arith, rest, front, whole)

  member_few : (k : ℕ) (flush : FlushRecord) (flushes : List FlushRecord) → slice_get flushes k ≡ Some flush
      → values_in (parts_on id flush) ≤ values_taken id flushes
  member_few k flush [] there = absurd (not_some flush there)
  member_few zero flush (one ∷ flushes) there =
      let whole = sum_by-append values_of_part (parts_on id one) (flat_map (parts_on id) flushes) in
      subst (λ (f : FlushRecord). values_in (parts_on id f) ≤ values_taken id (one ∷ flushes))
      (some_same one flush there) (omega (arith, whole))
  member_few (suc k) flush (one ∷ flushes) there =
      let rest = member_few k flush flushes there in
      let whole = sum_by-append values_of_part (parts_on id one) (flat_map (parts_on id) flushes) in
      omega (arith, rest, whole)

pub row_bins : (flushes : List FlushRecord) (k : ℕ) (flush : FlushRecord) (bounds : List ℕ → List Bound)
    (numbered : NumberedMetric)
    → AreCountable flushes → slice_get flushes k ≡ Some flush
    → HasBinsShown (histogram_row bounds flush (take (suc k) flushes) numbered)
row_bins flushes k flush bounds numbered can there =
    let id : ℕ = numbered.0 in
    let most : ℕ = values_taken id flushes in
    let so_far : List FlushRecord = take (suc k) flushes in
    record {
      interval = bins_shown (parts_on id flush) most
          (flush_lawful id flush (member_lawful k flush flushes there can.lawful))
          (member_few id k flush flushes there) (can.values id);
      cumulative = bins_shown (flat_map (parts_on id) so_far) most
          (flushes_lawful id so_far (front_lawful (suc k) flushes can.lawful))
          (front_few id (suc k) flushes) (can.values id);
    }

pub views_have_bins : ViewsHaveBins
views_have_bins config report k shown showable is =
    let rules = view_rules config in
    let so_far : List FlushRecord = take (suc k) report.flushes in
    let found = map_some (λ (flush : FlushRecord). view_of rules report.log flush so_far) (slice_get report.flushes k) shown is in
    let flush : FlushRecord = found.0 in
    let before : State = state_before rules.names report.log flush in
    let numbered : List NumberedMetric =
    metrics_shown Histogram (has_histogram_row before flush) (last_state rules.names report.log) in
    subst (λ (v : FlushView). All HasBinsShown v.histograms) (sym found.2)
    (All-map HasBinsShown (histogram_row rules.bounds flush so_far) numbered
    (λ j d below. row_bins report.flushes k flush rules.bounds (get_or numbered j d)
    (countable config report showable) found.1))
