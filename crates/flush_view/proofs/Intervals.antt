-- A histogram's interval has the bins of all values that the flush took of it.
use Rattle.std.proofs.Common.{◌≡◌, ◌≢◌, ℕ, zero, suc, ◌+◌, ◌<◌, ◌≤◌, ◌==◌, Bool, true, false, cond, List, [], ◌∷◌, ◌++◌, map, length, refl, ap, sym, ◌∙◌, arith, inl, inr, ◌⊎◌}
use Rattle.std.specs.Prelude.{fold, filter, sum_by, get_or}
use Rattle.std.specs.List.{flat_map, AllByRecursion, AllPairs}
use Rattle.std.proofs.lemmas.Bool.Decides.{eqb_tells, leb_tells}
use Rattle.std.proofs.lemmas.List.{get_or_past}
use Rattle.std.proofs.lemmas.List.Elements.{recursion_from_All, All-from_recursion}
use Rattle.std.proofs.lemmas.List.Sums.{sum_by-cons, sum_by-append}
use Rattle.stat_defs.specs.declared.bins.Bin.{Bin}
use Rattle.stat_defs.specs.declared.bins.BinCount.{BinCount}
use Rattle.stat_defs.specs.declared.reports.Part.{Part}
use Rattle.loglinear_bins.specs.Bins.{bin_of_value, is_same}
use Rattle.loglinear_bins.specs.Counts.{count_of, merged}
use Rattle.loglinear_bins.proofs.Adding.{count_of-merged}
use Rattle.loglinear_bins.proofs.Values.{AreBinsOf-bins_of}
use Rattle.merge_round.specs.Halves.{values_on, bins_by}
use Rattle.merge_round.specs.Rounds.{IsBefore, HasPart, ArePartsOf}
use Rattle.ledger.specs.Work.{Recording}
use Rattle.ledger.specs.Segments.{segment_of, bins_by_worker}
use Rattle.ledger.proofs.Lists.{nil_cons}
use Rattle.flush_view.specs.Views.{is_part_on}
use Rattle.flush_view.proofs.Totals.{total_from, total_none, total_both, total_same, total_at, total_shift, members}

-- one for a value in the bin
abbrev pub has : Bin → ℕ → ℕ
has bin v = cond (is_same (bin_of_value v) bin) 1 0

abbrev pub count_in : Bin → List ℕ → ℕ
count_in bin values = sum_by (has bin) values

-- how many values a segment has on the histogram in the bin
abbrev pub count_on : ℕ → Bin → List Recording → ℕ
count_on id bin segment = count_in bin (values_on id segment)

values_append : (id : ℕ) (xs ys : List Recording) → values_on id (xs ++ ys) ≡ values_on id xs ++ values_on id ys
values_append id [] ys = refl
values_append id (x ∷ xs) ys = by_case (x.0 == id) (values_append id xs ys) where
  by_case : (t : Bool) → values_on id (xs ++ ys) ≡ values_on id xs ++ values_on id ys
      → map (λ (p : ℕ × ℕ). p.1) (cond t (x ∷ filter (λ p. p.0 == id) (xs ++ ys)) (filter (λ p. p.0 == id) (xs ++ ys)))
      ≡ map (λ (p : ℕ × ℕ). p.1) (cond t (x ∷ filter (λ p. p.0 == id) xs) (filter (λ p. p.0 == id) xs)) ++ values_on id ys
  by_case true rest = ap (λ (l : List ℕ). x.1 ∷ l) rest
  by_case false rest = rest

pub count_append : (id : ℕ) (bin : Bin) (xs ys : List Recording) → count_on id bin (xs ++ ys) ≡ count_on id bin xs + count_on id bin ys
count_append id bin xs ys =
    ap (λ (l : List ℕ). count_in bin l) (values_append id xs ys) ∙ sum_by-append (has bin) (values_on id xs) (values_on id ys)

abbrev pub all_bins : List BinCount → List Part → List BinCount
all_bins from parts = fold merged from (map (λ (part : Part). part.bins) parts)

module _ (id : ℕ) (bin : Bin) where
  -- what a part adds to the histogram's bin
  abbrev of_part : Part → ℕ
  of_part part = cond (part.id.0 == id) (count_of part.bins bin) 0

  summed : (from : List BinCount) (parts : List Part)
      → count_of (all_bins from (filter (is_part_on id) parts)) bin ≡ count_of from bin + sum_by of_part parts
  summed from [] = omega arith
  summed from (part ∷ parts) = by_case (part.id.0 == id) refl (summed (merged from part.bins) parts) (summed from parts) where
    by_case : (b : Bool) → (part.id.0 == id) ≡ b
        → count_of (all_bins (merged from part.bins) (filter (is_part_on id) parts)) bin ≡ count_of (merged from part.bins) bin + sum_by of_part parts
        → count_of (all_bins from (filter (is_part_on id) parts)) bin ≡ count_of from bin + sum_by of_part parts
        → count_of (all_bins from (cond b (part ∷ filter (is_part_on id) parts) (filter (is_part_on id) parts))) bin ≡ count_of from bin + sum_by of_part (part ∷ parts)
    by_case true same with_it without =
        let head : of_part part ≡ count_of part.bins bin = ap (λ b. cond b (count_of part.bins bin) 0) same in
        let more = count_of-merged from part.bins bin in
        let whole = sum_by-cons of_part part parts in
        omega (arith, with_it, head, more, whole)
    by_case false other with_it without =
        let head : of_part part ≡ 0 = ap (λ b. cond b (count_of part.bins bin) 0) other in
        let whole = sum_by-cons of_part part parts in
        omega (arith, without, head, whole)

  -- what it adds where it is this worker's
  abbrev of_worker : ℕ → Part → ℕ
  of_worker w part = cond (part.worker == w) (of_part part) 0

  abbrev IsOn : ℕ → Part → Type 0
  IsOn w part = (part.worker ≡ w) × (part.id.0 ≡ id)

  abbrev Before : Part → Part → Type 0
  Before p q = IsBefore p.worker p.id.0 q.worker q.id.0

  abbrev Ordered : List Part → Type 0
  Ordered [] = Unit {0}
  Ordered (p ∷ ps) = AllByRecursion (Before p) ps × Ordered ps

  ordered : (ps : List Part) → AllPairs Before ps → Ordered ps
  ordered [] pairs = tt
  ordered (p ∷ ps) pairs = (
    recursion_from_All (Before p) ps (λ k d below. pairs 0 (suc k) d (omega arith) (omega (arith, below))),
    ordered ps (λ i j d low below. pairs (suc i) (suc j) d (omega (arith, low)) (omega (arith, below))),
  )

  -- a part that is not on both adds nothing
  adds_none : (w : ℕ) (p : Part) → (IsOn w p → ⊥) → of_worker w p ≡ 0
  adds_none w p apart = elim (eqb_tells p.worker w) [
    | inr h ↦ ap (λ b. cond b (of_part p) 0) h.0
    | inl h ↦ ap (λ b. cond b (of_part p) 0) h.0 ∙ elim (eqb_tells p.id.0 id) [
      | inr g ↦ ap (λ b. cond b (count_of p.bins bin) 0) g.0
      | inl g ↦ absurd (apart (h.1, g.1))
    ]
  ]

  adds_all : (w : ℕ) (p : Part) → IsOn w p → of_worker w p ≡ count_of p.bins bin
  adds_all w p on = elim (eqb_tells p.worker w) [
    | inr h ↦ absurd (h.1 on.0)
    | inl h ↦ ap (λ b. cond b (of_part p) 0) h.0 ∙ elim (eqb_tells p.id.0 id) [
      | inr g ↦ absurd (g.1 on.1)
      | inl g ↦ ap (λ b. cond b (count_of p.bins bin) 0) g.0
    ]
  ]

  not_after : (w : ℕ) (p q : Part) → IsOn w p → Before p q → IsOn w q → ⊥
  not_after w p q on (inl low) other = let a = on.0 in let b = other.0 in omega (arith, low, a, b)
  not_after w p q on (inr same) other = let low = same.1 in let a = on.1 in let b = other.1 in omega (arith, low, a, b)

  none_after : (w : ℕ) (p : Part) (qs : List Part) → IsOn w p → AllByRecursion (Before p) qs → sum_by (of_worker w) qs ≡ 0
  none_after w p [] on after = refl
  none_after w p (q ∷ qs) on after =
      let head = adds_none w q (λ other. not_after w p q on after.0 other) in
      let rest = none_after w p qs on after.1 in
      let whole = sum_by-cons (of_worker w) q qs in
      omega (arith, head, rest, whole)

  is_on : (w : ℕ) (p : Part) → IsOn w p ⊎ (IsOn w p → ⊥)
  is_on w p = elim (eqb_tells p.worker w) [
    | inr h ↦ inr (λ on. h.1 on.0)
    | inl h ↦ elim (eqb_tells p.id.0 id) [ inl g ↦ inl (h.1, g.1) | inr g ↦ inr (λ on. g.1 on.1) ]
  ]

  module _ (bins : ℕ → ℕ → List BinCount) where
    abbrev Held : List Part → Type 0
    Held ps = AllByRecursion (λ p. (p.bins ≡ bins p.worker p.id.0) × (p.bins ≢ [])) ps

    abbrev Whole : ℕ → List Part → Type 0
    Whole w ps = sum_by (of_worker w) ps ≡ count_of (bins w id) bin

    -- the one part that is on both adds its bins, and where there is none nothing is added
    one_at_most : (w : ℕ) (ps : List Part) → Held ps → Ordered ps
        → Whole w ps ⊎ (AllByRecursion (λ p. IsOn w p → ⊥) ps × (sum_by (of_worker w) ps ≡ 0))
    one_at_most w [] held order = inr (tt, refl)
    one_at_most w (p ∷ ps) held order = elim (is_on w p) [
      | inl on ↦
          let head = adds_all w p on in
          let same : count_of p.bins bin ≡ count_of (bins w id) bin =
          ap (λ (l : List BinCount). count_of l bin) (held.0.0 ∙ ap (λ (v : ℕ). bins v p.id.0) on.0 ∙ ap (λ (i : ℕ). bins w i) on.1) in
          let rest = none_after w p ps on order.0 in
          let whole = sum_by-cons (of_worker w) p ps in
          inl (omega (arith, head, same, rest, whole))
      | inr apart ↦
          let head = adds_none w p apart in
          let whole = sum_by-cons (of_worker w) p ps in
          elim (one_at_most w ps held.1 order.1) [
            | inl found ↦ inl (omega (arith, head, whole, found))
            | inr none ↦ let rest = none.1 in inr ((apart, none.0), omega (arith, head, whole, rest))
          ]
    ]

    not_there : (w : ℕ) (ps : List Part) → AllByRecursion (λ p. IsOn w p → ⊥) ps → HasPart ps w id → ⊥
    not_there w ps none (k, x, below, at, is) =
        All-from_recursion (λ p. IsOn w p → ⊥) ps none k x below (sym_at ps k x at is) where
          sym_at : (l : List Part) (k : ℕ) (x : Part) → get_or l k x ≡ x → IsOn w x → IsOn w (get_or l k x)
          sym_at l k x at is = (ap (λ (p : Part). p.worker) at ∙ is.0, ap (λ (p : Part). p.id.0) at ∙ is.1)

    -- the parts of a worker add the bins that it has of the histogram
    by_worker : (w : ℕ) (ps : List Part) → ArePartsOf bins ps → Whole w ps
    by_worker w ps are =
        elim (one_at_most w ps (recursion_from_All _ ps are.held) (ordered ps are.order)) [
          | inl found ↦ found
          | inr none ↦ decided (bins w id) refl none
        ] where
          decided : (l : List BinCount) → bins w id ≡ l
              → AllByRecursion (λ p. IsOn w p → ⊥) ps × (sum_by (of_worker w) ps ≡ 0) → Whole w ps
          decided [] is none = none.1 ∙ ap (λ (l : List BinCount). count_of l bin) (sym is)
          decided (c ∷ cs) is none = absurd (not_there w ps none.0 (are.whole w id (λ empty. nil_cons c cs (sym empty ∙ is))))

  module _ (segs : List (List Recording)) where
    abbrev bins : ℕ → ℕ → List BinCount
    bins = bins_by_worker segs

    -- a part's worker has a segment
    within : (p : Part) → p.bins ≡ bins p.worker p.id.0 → p.bins ≢ [] → (1 ≤ p.worker) × (p.worker < 1 + length segs)
    within p is some = at p.worker refl where
      past : (k : ℕ) → p.worker ≡ suc k → length segs ≤ k → p.bins ≡ []
      past k e far =
          is ∙ ap (λ (v : ℕ). bins v p.id.0) e ∙ ap (λ (l : List Recording). bins_by l p.id.0) (get_or_past segs k [] far)

      at : (v : ℕ) → p.worker ≡ v → (1 ≤ p.worker) × (p.worker < 1 + length segs)
      at zero e = absurd (some (is ∙ ap (λ (v : ℕ). bins v p.id.0) e))
      at (suc k) e = elim (leb_tells (length segs) k) [
        | inl h ↦ absurd (some (past k e h.1))
        | inr h ↦ let below = h.1 in (omega (arith, e), omega (arith, e, below))
      ]

    -- what parts add is the sum of what those of each worker add
    by_workers : (ps : List Part) → Held bins ps → sum_by of_part ps ≡ total_from (λ w. sum_by (of_worker w) ps) 1 (length segs)
    by_workers [] held = sym (total_none 1 (length segs))
    by_workers (p ∷ ps) held =
        let inside = within p held.0.0 held.0.1 in
        let own = total_at p.worker (of_part p) 1 (length segs) inside.0 inside.1 in
        let rest = by_workers ps held.1 in
        let whole = sum_by-cons of_part p ps in
        let split = total_same (λ w. sum_by (of_worker w) (p ∷ ps)) (λ w. of_worker w p + sum_by (of_worker w) ps) 1 (length segs)
        (λ w. sum_by-cons (of_worker w) p ps) in
        let both = total_both (λ w. of_worker w p) (λ w. sum_by (of_worker w) ps) 1 (length segs) in
        omega (arith, own, rest, whole, split, both)

    of_segments : total_from (λ w. count_on id bin (segment_of segs w)) 1 (length segs) ≡ count_in bin (flat_map (values_on id) segs)
    of_segments =
        total_shift (λ w. count_on id bin (segment_of segs w)) 0 (length segs)
        ∙ members (count_on id bin) refl (count_append id bin) segs
        ∙ in_order segs where
          in_order : (xss : List (List Recording)) → count_on id bin (flat_map (λ xs. xs) xss) ≡ count_in bin (flat_map (values_on id) xss)
          in_order [] = refl
          in_order (xs ∷ xss) =
              count_append id bin xs (flat_map (λ ys. ys) xss)
              ∙ ap (λ n. count_on id bin xs + n) (in_order xss)
              ∙ sym (sum_by-append (has bin) (values_on id xs) (flat_map (values_on id) xss))

    pub interval : (parts : List Part) → ArePartsOf (bins_by_worker segs) parts
        → count_of (all_bins [] (filter (is_part_on id) parts)) bin ≡ count_in bin (flat_map (values_on id) segs)
    interval parts are =
        let left = summed [] parts in
        let middle = by_workers parts (recursion_from_All _ parts are.held) in
        let each = total_same (λ w. sum_by (of_worker w) parts) (λ w. count_on id bin (segment_of segs w)) 1 (length segs)
        (λ w. by_worker bins w parts are ∙ (AreBinsOf-bins_of (values_on id (segment_of segs w))).each bin) in
        let right = of_segments in
        omega (arith, left, middle, each, right)
