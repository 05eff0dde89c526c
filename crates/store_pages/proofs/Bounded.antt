-- Lawful events that were counted have so many units and values at most, and what flushes took of them is lawful.
use Rattle.std.proofs.Common.{◌≡◌, ◌≢◌, ◌≤◌, ◌<◌, ◌*◌, ◌^◌, ◌==◌, ℕ, zero, suc, Bool, true, false, cond, List, [], ◌∷◌, map, length, take, drop, get_or, ap, arith}
use Rattle.std.specs.Prelude.{filter, sum_by}
use Rattle.std.specs.List.{cons_option, flat_map, AllByRecursion}
use Rattle.std.proofs.lemmas.List.Sums.{sum_by-cons, sum_by-append}
use Rattle.std.proofs.lemmas.List.Elements.{recursion_from_All}
use Rattle.stat_defs.specs.Events.{IsLawfulEvent}
use Rattle.stat_defs.specs.declared.bins.BinCount.{BinCount}
use Rattle.stat_defs.specs.declared.events.Event.{Event}
use Rattle.stat_defs.specs.declared.events.Event.TheVariants as event
use Rattle.stat_defs.specs.declared.history.Entry.{Entry}
use Rattle.stat_defs.specs.declared.history.Verdict.{Verdict}
use Rattle.stat_defs.specs.declared.history.Verdict.TheVariants as verdict
use Rattle.stat_defs.specs.declared.reports.FlushRecord.{FlushRecord}
use Rattle.stat_defs.specs.declared.reports.Part.{Part}
use Rattle.loglinear_bins.specs.Counts.{total}
use Rattle.book_state.specs.State.{NameRules}
use Rattle.ledger.specs.Flushes.{Fits}
use Rattle.ledger.specs.Lists.{EachNumbered}
use Rattle.ledger.specs.Segments.{part_count, taken_from, pieces, segment, segments_at, bins_by_worker}
use Rattle.ledger.specs.Work.{Work, Recording, units_in, units_by, recording_in, recordings}
use Rattle.flush_view.specs.Showing.{HasLawfulParts, values_taken}
use Rattle.flush_view.specs.Views.{is_part_on, parts_on}
use Rattle.flush_view.proofs.LawfulParts.{lawful_parts}
use Rattle.flush_view.proofs.Recorded.{Fit64, records_few}

abbrev pub AreLawful : Work → Type 0
AreLawful work = AllByRecursion (λ told. IsLawfulEvent told.0) work

unit_few : (id : ℕ) (e : Event) (v : Verdict) → IsLawfulEvent e → units_in id (e, v) ≤ 2 ^ 32
unit_few id (event.Inc label name n) (verdict.Accepted given) lawful = by_case (given.0 == id) where
  fits : n < 2 ^ 32
  fits = lawful.2

  by_case : (b : Bool) → cond b n 0 ≤ 2 ^ 32
  by_case true = omega (arith, fits)
  by_case false = omega arith
unit_few id _ _ lawful = omega arith

pub units_few : (id : ℕ) (work : Work) → AreLawful work → units_by id work ≤ length work * 2 ^ 32
units_few id [] lawful = omega arith
units_few id (told ∷ work) lawful =
    let one = unit_few id told.0 told.1 lawful.0 in
    let rest = units_few id work lawful.1 in
    let whole = sum_by-cons (units_in id) told work in
    omega (arith, one, rest, whole)

record_fits : (e : Event) (v : Verdict) (rest : List Recording) → IsLawfulEvent e → Fit64 rest
    → Fit64 (cons_option (recording_in (e, v)) rest)
record_fits (event.Rec label name v) (verdict.Accepted given) rest lawful fit = (lawful.2, fit)
record_fits _ _ rest lawful fit = fit

records_fit : (work : Work) → AreLawful work → Fit64 (recordings work)
records_fit [] lawful = tt
records_fit (told ∷ work) lawful = record_fits told.0 told.1 (recordings work) lawful.0 (records_fit work lawful.1)

take_fits : (n : ℕ) (xs : List Recording) → Fit64 xs → Fit64 (take n xs)
take_fits zero xs fit = tt
take_fits (suc n) [] fit = tt
take_fits (suc n) (x ∷ xs) fit = (fit.0, take_fits n xs fit.1)

drop_fits : (n : ℕ) (xs : List Recording) → Fit64 xs → Fit64 (drop n xs)
drop_fits zero xs fit = fit
drop_fits (suc n) [] fit = tt
drop_fits (suc n) (x ∷ xs) fit = drop_fits n xs fit.1

-- so does each piece of them
piece_fits : (ns : List ℕ) (xs : List Recording) (k : ℕ) → Fit64 xs → Fit64 (get_or (pieces ns xs) k [])
piece_fits [] xs k fit = tt
piece_fits (n ∷ ns) xs zero fit = take_fits n xs fit
piece_fits (n ∷ ns) xs (suc k) fit = piece_fits ns (drop n xs) k (drop_fits n xs fit)

-- a part of the one worker that there is counts its own values, and a part of any other has none
of_worker : (seg : List Recording) (w id : ℕ) (bins : List BinCount) → bins ≡ bins_by_worker (seg ∷ []) w id
    → total bins ≤ cond (w == 1) (total bins) 0
of_worker seg zero id bins is = omega (arith, ap (λ (l : List BinCount). total l) is)
of_worker seg (suc zero) id bins is = omega arith
of_worker seg (suc (suc w)) id bins is = omega (arith, ap (λ (l : List BinCount). total l) is)

module _ (id : ℕ) where
  abbrev values_in : List Part → ℕ
  values_in parts = sum_by (λ (part : Part). total part.bins) parts

  parts_within : (seg : List Recording) (parts : List Part)
      → AllByRecursion (λ (p : Part). (p.bins ≡ bins_by_worker (seg ∷ []) p.worker p.id.0) × (p.bins ≢ [])) parts
      → values_in (filter (is_part_on id) parts) ≤ sum_by (part_count 1) parts
  parts_within seg [] held = omega arith
  parts_within seg (part ∷ parts) held =
      by_case (part.id.0 == id) (parts_within seg parts held.1)
      (of_worker seg part.worker part.id.0 part.bins held.0.0) where
        by_case : (b : Bool) → values_in (filter (is_part_on id) parts) ≤ sum_by (part_count 1) parts
            → total part.bins ≤ part_count 1 part
            → values_in (cond b (part ∷ filter (is_part_on id) parts) (filter (is_part_on id) parts))
            ≤ sum_by (part_count 1) (part ∷ parts)
        by_case true rest one =
            let more = sum_by-cons (λ (p : Part). total p.bins) part (filter (is_part_on id) parts) in
            let whole = sum_by-cons (part_count 1) part parts in
            omega (arith, rest, one, more, whole)
        by_case false rest one = let whole = sum_by-cons (part_count 1) part parts in omega (arith, rest, whole)

module _ (rules : NameRules) (log : List Entry) (counted : Work) (all : List FlushRecord) where
  abbrev AreFit : ℕ → List FlushRecord → Type 0
  AreFit k flushes =
      EachNumbered (λ n flush. Fits rules log false (segments_at n 1 (counted ∷ []) all) flush) k flushes

  -- what these flushes show of a histogram they took of the worker
  pub values_within : (id k : ℕ) (flushes : List FlushRecord) → AreFit k flushes
      → values_taken id flushes ≤ sum_by (taken_from 1) flushes
  values_within id k [] fit = omega arith
  values_within id k (flush ∷ flushes) fit =
      let one = parts_within id (segment k 1 counted all) flush.parts
      (recursion_from_All _ flush.parts fit.0.parts.held) in
      let rest = values_within id (suc k) flushes fit.1 in
      let more = sum_by-append (λ (p : Part). total p.bins) (parts_on id flush) (flat_map (parts_on id) flushes) in
      let whole = sum_by-cons (taken_from 1) flush flushes in
      omega (arith, one, rest, more, whole)

  pub lawful_within : AreLawful counted → (k : ℕ) (flushes : List FlushRecord) → AreFit k flushes
      → AllByRecursion HasLawfulParts flushes
  lawful_within lawful k [] fit = tt
  lawful_within lawful k (flush ∷ flushes) fit = (
    lawful_parts (segments_at k 1 (counted ∷ []) all)
        (piece_fits (map (taken_from 1) all) (recordings counted) k (records_fit counted lawful), tt) flush fit.0.parts,
    lawful_within lawful (suc k) flushes fit.1,
  )

-- no more than there are events
pub values_few : (counted : Work) → length (recordings counted) ≤ length counted
values_few counted = records_few counted
