-- The parts of a flush that fits are bins of values that were recorded.
use Rattle.std.proofs.Common.{◌≡◌, ◌≢◌, ◌<◌, ◌^◌, ℕ, zero, suc, List, [], ◌∷◌, map, take, drop, get_or, sym, subst}
use Rattle.std.specs.List.{AllByRecursion}
use Rattle.std.proofs.lemmas.List.Elements.{All-from_recursion, recursion_from_All}
use Rattle.stat_defs.specs.declared.reports.FlushRecord.{FlushRecord}
use Rattle.stat_defs.specs.declared.reports.Part.{Part}
use Rattle.loglinear_bins.specs.Counts.{AreLawful}
use Rattle.loglinear_bins.proofs.Values.{IsBinList-bins_of}
use Rattle.merge_round.specs.Halves.{values_on}
use Rattle.merge_round.specs.Rounds.{ArePartsOf}
use Rattle.ledger.specs.Segments.{taken_from, pieces, segments_at, segment_of, bins_by_worker}
use Rattle.ledger.specs.Work.{Work, Recording, recordings}
use Rattle.flush_view.specs.Showing.{HasLawfulParts}
use Rattle.flush_view.proofs.Recorded.{LawfulWork, Fit64, records_fit, values_fit}

take_fits : (n : ℕ) (xs : List Recording) → Fit64 xs → Fit64 (take n xs)
take_fits zero xs fit = tt
take_fits (suc n) [] fit = tt
take_fits (suc n) (x ∷ xs) fit = (fit.0, take_fits n xs fit.1)

drop_fits : (n : ℕ) (xs : List Recording) → Fit64 xs → Fit64 (drop n xs)
drop_fits zero xs fit = fit
drop_fits (suc n) [] fit = tt
drop_fits (suc n) (x ∷ xs) fit = drop_fits n xs fit.1

pieces_fit : (ns : List ℕ) (xs : List Recording) → Fit64 xs → AllByRecursion Fit64 (pieces ns xs)
pieces_fit [] xs fit = tt
pieces_fit (n ∷ ns) xs fit = (take_fits n xs fit, pieces_fit ns (drop n xs) (drop_fits n xs fit))

-- the list at a place, and none past the end
at_place : (xss : List (List Recording)) (k : ℕ) → AllByRecursion Fit64 xss → Fit64 (get_or xss k [])
at_place [] k fit = tt
at_place (xs ∷ xss) zero fit = fit.0
at_place (xs ∷ xss) (suc k) fit = at_place xss k fit.1

pub segments_fit : (k w : ℕ) (workers : List Work) (flushes : List FlushRecord) → AllByRecursion LawfulWork workers
    → AllByRecursion Fit64 (segments_at k w workers flushes)
segments_fit k w [] flushes lawful = tt
segments_fit k w (work ∷ workers) flushes lawful = (
  at_place (pieces (map (taken_from w) flushes) (recordings work)) k
      (pieces_fit (map (taken_from w) flushes) (recordings work) (records_fit work lawful.0)),
  segments_fit k (suc w) workers flushes lawful.1,
)

segment_fits : (segs : List (List Recording)) (w : ℕ) → AllByRecursion Fit64 segs → Fit64 (segment_of segs w)
segment_fits segs zero fit = tt
segment_fits segs (suc at) fit = at_place segs at fit

module _ (segs : List (List Recording)) (fit : AllByRecursion Fit64 segs) where
  bins_lawful : (w id : ℕ) → AreLawful (bins_by_worker segs w id)
  bins_lawful w id =
      let values : List ℕ = values_on id (segment_of segs w) in
      let small = values_fit id (segment_of segs w) (segment_fits segs w fit) in
      (IsBinList-bins_of values (All-from_recursion (λ v. v < 2 ^ 64) values small)).lawful

  each_part : (parts : List Part)
      → AllByRecursion (λ p. (p.bins ≡ bins_by_worker segs p.worker p.id.0) × (p.bins ≢ [])) parts
      → AllByRecursion (λ part. AreLawful part.bins) parts
  each_part [] held = tt
  each_part (part ∷ parts) held =
      (subst AreLawful (sym held.0.0) (bins_lawful part.worker part.id.0), each_part parts held.1)

  pub lawful_parts : (flush : FlushRecord) → ArePartsOf (bins_by_worker segs) flush.parts → HasLawfulParts flush
  lawful_parts flush are = each_part flush.parts (recursion_from_All _ flush.parts are.held)
