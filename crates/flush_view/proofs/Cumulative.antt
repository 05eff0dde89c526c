-- The cumulative histogram behind the last flush has the bins of all recordings.
use Rattle.std.proofs.Common.{◌≡◌, ◌==◌, ℕ, suc, ◌+◌, List, [], ◌∷◌, length, refl, ap, sym, ◌∙◌, arith}
use Rattle.std.specs.Prelude.{sum_by}
use Rattle.std.specs.List.{flat_map}
use Rattle.std.proofs.lemmas.List.Sums.{sum_by-cons, sum_by-append}
use Rattle.stat_defs.specs.declared.bins.Bin.{Bin}
use Rattle.stat_defs.specs.declared.bins.BinCount.{BinCount}
use Rattle.stat_defs.specs.declared.history.Entry.{Entry}
use Rattle.stat_defs.specs.declared.reports.FlushRecord.{FlushRecord}
use Rattle.stat_defs.specs.declared.reports.Part.{Part}
use Rattle.stat_defs.specs.declared.reports.Report.{Report}
use Rattle.loglinear_bins.specs.Counts.{count_of, merged}
use Rattle.loglinear_bins.proofs.Adding.{count_of-merged}
use Rattle.merge_round.specs.Halves.{values_on}
use Rattle.book_state.specs.State.{NameRules}
use Rattle.ledger.specs.Flushes.{Fits}
use Rattle.ledger.specs.Ledger.{RunPlan, Account}
use Rattle.ledger.specs.Lists.{EachNumbered}
use Rattle.ledger.specs.Segments.{taken_from, segments, segment, segments_at}
use Rattle.ledger.specs.Work.{Work, Recording, recordings}
use Rattle.ledger.proofs.Pieces.{length-pieces}
use Rattle.flush_view.specs.Views.{parts_on, merged_parts}
use Rattle.flush_view.proofs.Intervals.{has, count_in, count_on, count_append, all_bins, interval}
use Rattle.flush_view.proofs.Totals.{total_from, total_none, total_both, total_same, members}

module _ (id : ℕ) (bin : Bin) where
  module _ (flushes : List FlushRecord) where
    -- how many values flush k took of the histogram in the bin, of the workers from w on
    abbrev taken : ℕ → List Work → ℕ → ℕ
    taken w workers k = count_in bin (flat_map (values_on id) (segments_at k w workers flushes))

    taken-cons : (w : ℕ) (work : Work) (workers : List Work) (k : ℕ)
        → taken w (work ∷ workers) k ≡ count_on id bin (segment k w work flushes) + taken (suc w) workers k
    taken-cons w work workers k =
        sum_by-append (has bin) (values_on id (segment k w work flushes)) (flat_map (values_on id) (segments_at k (suc w) workers flushes))

    of_worker : (w : ℕ) (work : Work) → flat_map (λ xs. xs) (segments w work flushes) ≡ recordings work
        → total_from (λ k. count_on id bin (segment k w work flushes)) 0 (length flushes) ≡ count_on id bin (recordings work)
    of_worker w work whole =
        ap (λ n. total_from (λ k. count_on id bin (segment k w work flushes)) 0 n) (sym (length-pieces (taken_from w) flushes (recordings work)))
        ∙ members (count_on id bin) refl (count_append id bin) (segments w work flushes)
        ∙ ap (λ (l : List Recording). count_on id bin l) whole

    of_workers : (w : ℕ) (workers : List Work) → EachNumbered (λ n work. flat_map (λ xs. xs) (segments n work flushes) ≡ recordings work) w workers
        → total_from (taken w workers) 0 (length flushes) ≡ count_in bin (flat_map (λ work. values_on id (recordings work)) workers)
    of_workers w [] each = total_none 0 (length flushes)
    of_workers w (work ∷ workers) each =
        total_same (taken w (work ∷ workers)) (λ k. count_on id bin (segment k w work flushes) + taken (suc w) workers k) 0 (length flushes) (taken-cons w work workers)
        ∙ total_both (λ k. count_on id bin (segment k w work flushes)) (taken (suc w) workers) 0 (length flushes)
        ∙ ap (λ n. n + total_from (taken (suc w) workers) 0 (length flushes)) (of_worker w work each.0)
        ∙ ap (λ n. count_on id bin (recordings work) + n) (of_workers (suc w) workers each.1)
        ∙ sym (sum_by-append (has bin) (values_on id (recordings work)) (flat_map (λ one. values_on id (recordings one)) workers))

  abbrev in_part : Part → ℕ
  in_part part = count_of part.bins bin

  merged_all : (from : List BinCount) (parts : List Part) → count_of (all_bins from parts) bin ≡ count_of from bin + sum_by in_part parts
  merged_all from [] = omega arith
  merged_all from (part ∷ parts) =
      let rest = merged_all (merged from part.bins) parts in
      let more = count_of-merged from part.bins bin in
      let whole = sum_by-cons in_part part parts in
      omega (arith, rest, more, whole)

  module _ (rules : NameRules) (log : List Entry) (workers : List Work) (all : List FlushRecord) (n : ℕ) where
    each_flush : (k : ℕ) (flushes : List FlushRecord)
        → EachNumbered (λ j flush. Fits rules log (suc j == n) (segments_at j 1 workers all) flush) k flushes
        → sum_by in_part (flat_map (parts_on id) flushes) ≡ total_from (taken all 1 workers) k (length flushes)
    unfolding total_from
    each_flush k [] each = refl
    each_flush k (flush ∷ flushes) each =
        let first = interval id bin (segments_at k 1 workers all) flush.parts each.0.parts in
        let together = merged_all [] (parts_on id flush) in
        let rest = each_flush (suc k) flushes each.1 in
        let whole = sum_by-append in_part (parts_on id flush) (flat_map (parts_on id) flushes) in
        omega (arith, first, together, rest, whole)

  pub cumulative : (plan : RunPlan) (workers : List Work) (report : Report) → Account plan workers report
      → count_of (merged_parts (flat_map (parts_on id) report.flushes)) bin ≡ count_in bin (flat_map (λ work. values_on id (recordings work)) workers)
  cumulative plan workers report account =
      let together = merged_all [] (flat_map (parts_on id) report.flushes) in
      let each = each_flush plan.rules report.log workers report.flushes (length report.flushes) 0 report.flushes account.flushes in
      let whole = of_workers report.flushes 1 workers account.values in
      omega (arith, together, each, whole)
