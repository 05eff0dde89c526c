-- Lawful bins of a list of values have as many values as it has.
use Rattle.std.proofs.Common.{◌≡◌, ◌≤◌, ◌<◌, ◌+◌, ◌^◌, ◌==◌, ℕ, suc, true, cond, List, [], ◌∷◌, length, refl, ap, sym, ◌∙◌, arith, inl, inr}
use Rattle.std.specs.Prelude.{sum_by}
use Rattle.std.specs.List.{list_all, AllByRecursion}
use Rattle.std.proofs.lemmas.Bool.Decides.{eqb_tells, leb_tells}
use Rattle.std.proofs.lemmas.List.Sums.{sum_by-cons}
use Rattle.stat_defs.specs.declared.bins.Bin.{Bin}
use Rattle.stat_defs.specs.declared.bins.BinCount.{BinCount}
use Rattle.stat_defs.specs.declared.reports.Part.{Part}
use Rattle.loglinear_bins.specs.Bins.{bin_of_value, is_lawful, is_same}
use Rattle.loglinear_bins.specs.Counts.{AreBinsOf, AreLawful, merged, total}
use Rattle.loglinear_bins.specs.Table.{place_of, bin_at}
use Rattle.loglinear_bins.proofs.Adding.{total-merged}
use Rattle.loglinear_bins.proofs.Lawful.{is_lawful-bin_of_value}
use Rattle.loglinear_bins.proofs.Order.{other_bin, other_bin_back}
use Rattle.loglinear_bins.proofs.Places.{is_same-refl, bin_at-place_of}
use Rattle.book_state.proofs.Lists.{both}
use Rattle.flush_view.specs.Views.{merged_parts}
use Rattle.flush_view.proofs.Intervals.{all_bins}
use Rattle.flush_view.proofs.Totals.{total_from, total_none, total_both, total_same, total_at}

-- a bin is that of its own place alone
same_place : (p k : ℕ) → is_same (bin_at p) (bin_at k) ≡ (p == k)
same_place p k = elim (eqb_tells p k) [
  | inl h ↦ ap (λ n. is_same (bin_at p) (bin_at n)) (sym h.1) ∙ is_same-refl (bin_at p) ∙ sym h.0
  | inr h ↦ elim (leb_tells k p) [
    | inl g ↦ let ne = h.1 in let low = g.1 in other_bin_back k p (above ne low) ∙ sym h.0
    | inr g ↦ other_bin p k g.1 ∙ sym h.0
  ]
] where
  above : (p ≡ k → ⊥) → k ≤ p → k < p
  above ne low = elim (leb_tells p k) [
    | inl g ↦ let high = g.1 in absurd (ne (omega (arith, low, high)))
    | inr g ↦ g.1
  ]

-- members of a list, each with a bin and a number
module _ {X : Type 0} (bin : X → Bin) (n : X → ℕ) where
  abbrev in_bin : Bin → X → ℕ
  in_bin b x = cond (is_same (bin x) b) (n x) 0

  abbrev places : List X → ℕ
  places xs = sum_by (λ x. place_of (bin x)) xs

  of_one : (most : ℕ) (x : X) → is_lawful (bin x) ≡ true → place_of (bin x) < most
      → total_from (λ k. in_bin (bin_at k) x) 0 most ≡ n x
  of_one most x lawful below =
      total_same (λ k. in_bin (bin_at k) x) (λ k. cond (place_of (bin x) == k) (n x) 0) 0 most (λ k.
      ap (λ b. cond b (n x) 0)
      (ap (λ b. is_same b (bin_at k)) (sym (bin_at-place_of (bin x) lawful)) ∙ same_place (place_of (bin x)) k))
      ∙ total_at (place_of (bin x)) (n x) 0 most (omega arith) (omega (arith, below))

  -- the numbers of all bins together are those of all members
  of_all : (most : ℕ) (xs : List X) → AllByRecursion (λ x. is_lawful (bin x) ≡ true) xs → places xs < most
      → total_from (λ k. sum_by (in_bin (bin_at k)) xs) 0 most ≡ sum_by n xs
  of_all most [] lawful below = total_none 0 most
  of_all most (x ∷ xs) lawful below =
      let place = sum_by-cons (λ y. place_of (bin y)) x xs in
      let one = of_one most x lawful.0 (omega (arith, below, place)) in
      let rest = of_all most xs lawful.1 (omega (arith, below, place)) in
      let split = total_same (λ k. sum_by (in_bin (bin_at k)) (x ∷ xs))
      (λ k. in_bin (bin_at k) x + sum_by (in_bin (bin_at k)) xs) 0 most
      (λ k. sum_by-cons (in_bin (bin_at k)) x xs) in
      let both = total_both (λ k. in_bin (bin_at k) x) (λ k. sum_by (in_bin (bin_at k)) xs) 0 most in
      let whole = sum_by-cons n x xs in
      omega (arith, one, rest, split, both, whole)

each_lawful : (counts : List BinCount) → AreLawful counts → AllByRecursion (λ c. is_lawful c.bin ≡ true) counts
each_lawful [] lawful = tt
each_lawful (c ∷ counts) lawful =
    let parts = both (is_lawful c.bin) (list_all (λ d. is_lawful d.bin) counts) lawful in
    (parts.0, each_lawful counts parts.1)

each_value : (values : List ℕ) → AllByRecursion (λ v. v < 2 ^ 64) values
    → AllByRecursion (λ v. is_lawful (bin_of_value v) ≡ true) values
each_value [] fit = tt
each_value (v ∷ values) fit = (is_lawful-bin_of_value v fit.0, each_value values fit.1)

one_each : (values : List ℕ) → sum_by (λ v. 1) values ≡ length values
one_each [] = refl
one_each (v ∷ values) =
    let rest = one_each values in
    let whole = sum_by-cons (λ (w : ℕ). 1) v values in
    omega (arith, rest, whole)

pub total_of_values : (counts : List BinCount) (values : List ℕ) → AreLawful counts
    → AllByRecursion (λ v. v < 2 ^ 64) values
    → AreBinsOf counts values → total counts ≡ length values
total_of_values counts values lawful fit are =
    let most : ℕ = suc (places (λ c. c.bin) (λ c. c.count) counts + places bin_of_value (λ v. 1) values) in
    let mine = of_all (λ (c : BinCount). c.bin) (λ c. c.count) most counts (each_lawful counts lawful) (omega arith) in
    let theirs = of_all bin_of_value (λ v. 1) most values (each_value values fit) (omega arith) in
    let same = total_same (λ k. sum_by (in_bin (λ (c : BinCount). c.bin) (λ c. c.count) (bin_at k)) counts)
    (λ k. sum_by (in_bin bin_of_value (λ v. 1) (bin_at k)) values) 0 most
    (λ k. are.each (bin_at k)) in
    let ones = one_each values in
    omega (arith, mine, theirs, same, ones)

total_all : (from : List BinCount) (parts : List Part)
    → total (all_bins from parts) ≡ total from + sum_by (λ (part : Part). total part.bins) parts
total_all from [] = omega arith
total_all from (part ∷ parts) =
    let rest = total_all (merged from part.bins) parts in
    let more = total-merged from part.bins in
    let whole = sum_by-cons (λ (p : Part). total p.bins) part parts in
    omega (arith, rest, more, whole)

-- a sum of parts has the values of each
pub total_merged : (parts : List Part) → total (merged_parts parts) ≡ sum_by (λ (part : Part). total part.bins) parts
total_merged parts = let whole = total_all [] parts in omega (arith, whole)
