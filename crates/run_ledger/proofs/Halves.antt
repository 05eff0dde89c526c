-- What the flushes took of a worker are its segments.
use Rattle.std.proofs.Common.{◌≡◌, ◌+◌, ℕ, zero, suc, List, [], ◌∷◌, ◌++◌, map, length, drop, get_or, refl, ap, sym, ◌∙◌, arith}
use Rattle.std.specs.List.{flat_map, AllByRecursion}
use Rattle.std.proofs.lemmas.List.{take_at, drop_at, drop_more, drop_all, get_or_at, map-append, length-map}
use Rattle.std.proofs.lemmas.List.Concat.{flat_map-append}
use Rattle.std.proofs.lemmas.List.Folds.{flat_map-map}
use Rattle.std.proofs.lemmas.Simd.{map-map}
use Rattle.stat_defs.specs.declared.reports.FlushRecord.{FlushRecord}
use Rattle.merge_round.specs.Rounds.{ArePartsOf}
use Rattle.ledger.specs.Lists.{EachNumbered}
use Rattle.ledger.specs.Work.{Recording, recordings}
use Rattle.ledger.specs.Segments.{taken_from, pieces, segments, segments_at, segment, segment_of, bins_by_worker}
use Rattle.ledger.proofs.Lists.{cons_same, both_appended}
use Rattle.ledger.proofs.PartLists.{counts}
use Rattle.run_ledger.specs.Told.{FlushTold, WorkerTold, values_in, taken_by, halves_at, halves_of}

-- a list that is joined of pieces, cut by their lengths
cut_again : {X Y : Type 0} (g : Y → List X) (n : Y → ℕ) (ys : List Y) → AllByRecursion (λ y. n y ≡ length (g y)) ys → pieces (map n ys) (flat_map g ys) ≡ map g ys
cut_again g n [] each = refl
cut_again {X} g n (y ∷ ys) each =
    cons_same _ _ _ _ (take_at (g y) (flat_map g ys) (n y) (sym each.0))
    (ap (λ (l : List X). pieces (map n ys) l) (drop_at (g y) (flat_map g ys) (n y) (sym each.0)) ∙ cut_again g n ys each.1)

values_at : (by : List (List (List Recording))) (at : ℕ) → get_or (map values_in by) at [] ≡ values_in (get_or by at [])
values_at [] at = refl
values_at (halves ∷ by) zero = refl
values_at (halves ∷ by) (suc at) = values_at by at

-- what a flush took of a worker are the values of the halves that it took of it
pub of_halves : (w : ℕ) (flush : FlushTold) → segment_of (taken_by flush) w ≡ values_in (halves_at flush.halves w)
of_halves zero flush = refl
of_halves (suc at) flush = values_at flush.halves at

all_values : (w : ℕ) (flushes : List FlushTold) → flat_map (λ flush. segment_of (taken_by flush) w) flushes ≡ values_in (halves_of w flushes)
all_values w [] = refl
all_values w (flush ∷ flushes) =
    both_appended _ _ _ _ (of_halves w flush) (all_values w flushes)
    ∙ sym (flat_map-append (λ (half : List Recording). half) (halves_at flush.halves w) (halves_of w flushes))

abbrev pub HasParts : FlushTold → Type 0
HasParts flush = ArePartsOf (bins_by_worker (taken_by flush)) flush.shown.parts

module _ (flushes : List FlushTold) (parts : AllByRecursion HasParts flushes) where
  abbrev shown : List FlushRecord
  shown = map (λ (flush : FlushTold). flush.shown) flushes

  counted : (at : ℕ) (told : List FlushTold) → AllByRecursion HasParts told → AllByRecursion (λ flush. taken_from (suc at) flush.shown ≡ length (segment_of (taken_by flush) (suc at))) told
  counted at [] each = tt
  counted at (flush ∷ told) each = (counts (taken_by flush) flush.shown at each.0, counted at told each.1)

  -- the halves that flushes took of it have all that it recorded
  abbrev TakesAll : ℕ → WorkerTold → Type 0
  TakesAll w worker = values_in (halves_of w flushes) ≡ recordings worker.work

  pub segments_are : (at : ℕ) (worker : WorkerTold) → TakesAll (suc at) worker
      → segments (suc at) worker.work shown ≡ map (λ flush. segment_of (taken_by flush) (suc at)) flushes
  segments_are at worker all =
      ap (λ (ns : List ℕ). pieces ns (recordings worker.work)) (map-map (taken_from (suc at)) (λ (flush : FlushTold). flush.shown) flushes)
      ∙ ap (λ (l : List Recording). pieces (map (λ (flush : FlushTold). taken_from (suc at) flush.shown) flushes) l) (sym (all_values (suc at) flushes ∙ all))
      ∙ cut_again (λ flush. segment_of (taken_by flush) (suc at)) (λ flush. taken_from (suc at) flush.shown) flushes (counted at flushes parts)

  pub segments_all : (at : ℕ) (worker : WorkerTold) → TakesAll (suc at) worker
      → flat_map (λ piece. piece) (segments (suc at) worker.work shown) ≡ recordings worker.work
  segments_all at worker all =
      ap (λ (l : List (List Recording)). flat_map (λ piece. piece) l) (segments_are at worker all)
      ∙ flat_map-map (λ (piece : List Recording). piece) (λ flush. segment_of (taken_by flush) (suc at)) flushes
      ∙ all_values (suc at) flushes
      ∙ all

  -- the segments of one flush are what it took of each worker
  module _ (before : List FlushTold) (flush : FlushTold) (behind : List FlushTold) (are : flushes ≡ before ++ flush ∷ behind) where
    one_segment : (at : ℕ) (worker : WorkerTold) → TakesAll (suc at) worker → segment (length before) (suc at) worker.work shown ≡ segment_of (taken_by flush) (suc at)
    one_segment at worker all =
        let g : FlushTold → List Recording = λ (f : FlushTold). segment_of (taken_by f) (suc at) in
        ap (λ (segs : List (List Recording)). get_or segs (length before) [])
        (segments_are at worker all ∙ ap (λ (l : List FlushTold). map g l) are ∙ map-append g before (flush ∷ behind))
        ∙ get_or_at (map g before) (g flush) (map g behind) [] (length before) (length-map before g)

    segments_from : (at : ℕ) (workers : List WorkerTold) → at + length workers ≡ length (taken_by flush) → EachNumbered TakesAll (suc at) workers
        → segments_at (length before) (suc at) (map (λ worker. worker.work) workers) shown ≡ drop at (taken_by flush)
    segments_from at [] long all = sym (drop_all at (taken_by flush) (omega (arith, long)))
    segments_from at (worker ∷ workers) long all =
        let rest = segments_from (suc at) workers (omega (arith, long)) all.1 in
        let next : at + 1 ≡ suc at = omega arith in
        cons_same _ _ _ _ (one_segment at worker all.0) (rest ∙ ap (λ (k : ℕ). drop k (taken_by flush)) (sym next))
        ∙ sym (drop_more (taken_by flush) at [] (omega (arith, long)))

    pub segments_here : (workers : List WorkerTold) → length workers ≡ length (taken_by flush) → EachNumbered TakesAll 1 workers
        → segments_at (length before) 1 (map (λ worker. worker.work) workers) shown ≡ taken_by flush
    segments_here workers long all = segments_from 0 workers (omega (arith, long)) all
