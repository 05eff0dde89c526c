-- Two lists of bins with the same counts are one list, so a merge of what was merged is a merge.
use Rattle.std.proofs.Common.{◌≡◌, ℕ, suc, ◌+◌, ◌<◌, ◌≤◌, true, cond, List, [], ◌∷◌, map, nat_lt, refl, ap, sym, ◌∙◌, subst, arith, inl, inr}
use Rattle.std.specs.List.{list_all}
use Rattle.std.specs.List.Sorted.{IsStrictlyIncreasing}
use Rattle.std.proofs.lemmas.Bool.{cases_Bool}
use Rattle.std.proofs.lemmas.Bool.Decides.{leb_tells, Decides-ltb}
use Rattle.std.proofs.lemmas.List.Sums.{sum_by-cons}
use Rattle.stat_defs.specs.declared.bins.Bin.{Bin}
use Rattle.stat_defs.specs.declared.bins.BinCount.{BinCount}
use Rattle.stat_defs.specs.declared.reports.Part.{Part}
use Rattle.loglinear_bins.specs.Bins.{is_lawful, is_same, low_tenths}
use Rattle.loglinear_bins.specs.Counts.{AreLawful, IsBinList, count_of, merged}
use Rattle.loglinear_bins.specs.Table.{place_of, bin_at}
use Rattle.loglinear_bins.proofs.Adding.{count_of-merged}
use Rattle.loglinear_bins.proofs.Order.{low_tenths-bin_at}
use Rattle.loglinear_bins.proofs.Places.{is_same-refl, is_same-true, bin_at-place_of}
use Rattle.loglinear_bins.proofs.Restored.{merged-IsBinList}
use Rattle.loglinear_bins.proofs.MergedBins.{both_hold, sums_rise}

cons_same : {X : Type 0} {x y : X} {xs ys : List X} → x ≡ y → xs ≡ ys → x ∷ xs ≡ y ∷ ys
cons_same e f = λ i. e i ∷ f i

-- lawful bins that are not empty and rise from a place on
abbrev RisesFrom : ℕ → List BinCount → Type 0
RisesFrom low [] = Unit {0}
RisesFrom low (c ∷ cs) =
    (low ≤ low_tenths c.bin) × (0 < c.count) × (is_lawful c.bin ≡ true) × RisesFrom (low_tenths c.bin + 1) cs

rise_from : (low : ℕ) (c : BinCount) (cs : List BinCount) → low ≤ low_tenths c.bin
    → list_all (λ b. is_lawful b.bin) (c ∷ cs) ≡ true → list_all (λ b. nat_lt 0 b.count) (c ∷ cs) ≡ true
    → IsStrictlyIncreasing (map (λ b. low_tenths b.bin) (c ∷ cs)) → RisesFrom low (c ∷ cs)
rise_from low c [] first lawful some rising =
    (first, (Decides-ltb 0 c.count).0 (both_hold (nat_lt 0 c.count) true some).0, (both_hold (is_lawful c.bin) true lawful).0, tt)
rise_from low c (d ∷ ds) first lawful some rising =
    let is = both_hold (is_lawful c.bin) (list_all (λ b. is_lawful b.bin) (d ∷ ds)) lawful in
    let has = both_hold (nat_lt 0 c.count) (list_all (λ b. nat_lt 0 b.count) (d ∷ ds)) some in
    let next = rising 0 (omega arith) in (
      first,
      (Decides-ltb 0 c.count).0 has.0,
      is.0,
      rise_from (low_tenths c.bin + 1) d ds (omega (arith, next)) is.1 has.1
          (λ k short. let more : suc k + 1
          ≡ suc (k + 1) = omega arith in rw more at (rising (suc k) (omega (arith, short)))),
    )

rise : (cs : List BinCount) → IsBinList cs → RisesFrom 0 cs
rise [] is = tt
rise (c ∷ cs) is = rise_from 0 c cs (omega arith) is.lawful is.some is.rising

lower_place : (b c : Bin) → is_lawful b ≡ true → is_lawful c ≡ true → place_of b < place_of c
    → low_tenths b < low_tenths c
lower_place b c lb lc below =
    let lower = low_tenths-bin_at (place_of b) (place_of c) below in
    let at_b : low_tenths (bin_at (place_of b)) ≡ low_tenths b = ap low_tenths (bin_at-place_of b lb) in
    let at_c : low_tenths (bin_at (place_of c)) ≡ low_tenths c = ap low_tenths (bin_at-place_of c lc) in
    omega (arith, lower, at_b, at_c)

-- bins that begin at one place are one
same_low : (b c : Bin) → is_lawful b ≡ true → is_lawful c ≡ true → low_tenths b ≡ low_tenths c → b ≡ c
same_low b c lb lc same = elim (leb_tells (place_of b) (place_of c)) [
  | inr h ↦ let less = lower_place c b lc lb h.1 in absurd (omega (arith, less, same))
  | inl h ↦ elim (leb_tells (place_of c) (place_of b)) [
    | inr g ↦ let less = lower_place b c lb lc g.1 in absurd (omega (arith, less, same))
    | inl g ↦
        let one = h.1 in let other = g.1 in
        let place : place_of b ≡ place_of c = omega (arith, one, other) in
        sym (bin_at-place_of b lb) ∙ ap bin_at place ∙ bin_at-place_of c lc
  ]
]

-- none of the bins is one that begins below them
none_below : (low : ℕ) (cs : List BinCount) (bin : Bin) → RisesFrom low cs → low_tenths bin < low → count_of cs bin ≡ 0
none_below low [] bin rises below = refl
none_below low (c ∷ cs) bin rises below = elim (cases_Bool (is_same c.bin bin)) [
  | inl same ↦
      let first = rises.0 in
      let even : low_tenths c.bin ≡ low_tenths bin = ap low_tenths (is_same-true c.bin bin same) in
      absurd (omega (arith, first, even, below))
  | inr other ↦
      let first = rises.0 in
      let head : cond (is_same c.bin bin) c.count 0 ≡ 0 = ap (λ b. cond b c.count 0) other in
      let rest = none_below (low_tenths c.bin + 1) cs bin rises.3 (omega (arith, first, below)) in
      let whole = sum_by-cons (λ (b : BinCount). cond (is_same b.bin bin) b.count 0) c cs in
      omega (arith, head, rest, whole)
]

-- the count of the first bin
first_count : (low : ℕ) (c : BinCount) (cs : List BinCount) → RisesFrom low (c ∷ cs) → count_of (c ∷ cs) c.bin ≡ c.count
first_count low c cs rises =
    let head : cond (is_same c.bin c.bin) c.count 0 ≡ c.count = ap (λ b. cond b c.count 0) (is_same-refl c.bin) in
    let rest = none_below (low_tenths c.bin + 1) cs c.bin rises.3 (omega arith) in
    let whole = sum_by-cons (λ (b : BinCount). cond (is_same b.bin c.bin) b.count 0) c cs in
    omega (arith, head, rest, whole)

abbrev SameCounts : List BinCount → List BinCount → Type 0
SameCounts cs ds = (bin : Bin) → count_of cs bin ≡ count_of ds bin

-- the first bin of one list does not begin below that of the other
not_lower : (low : ℕ) (c d : BinCount) (cs ds : List BinCount) → RisesFrom low (c ∷ cs) → RisesFrom low (d ∷ ds)
    → SameCounts (c ∷ cs) (d ∷ ds) → low_tenths c.bin < low_tenths d.bin → ⊥
not_lower low c d cs ds one other same lower =
    let here = first_count low c cs one in
    let some = one.1 in
    let there = none_below (low_tenths d.bin) (d ∷ ds) c.bin (omega arith, other.1, other.2, other.3) lower in
    let equal = same c.bin in
    omega (arith, here, some, there, equal)

same_rising : (low : ℕ) (cs ds : List BinCount) → RisesFrom low cs → RisesFrom low ds → SameCounts cs ds → cs ≡ ds
same_rising low [] [] one other same = refl
same_rising low [] (d ∷ ds) one other same =
    let here = first_count low d ds other in let some = other.1 in let equal = same d.bin in absurd
    (omega (arith, here, some, equal))
same_rising low (c ∷ cs) [] one other same =
    let here = first_count low c cs one in let some = one.1 in let equal = same c.bin in absurd
    (omega (arith, here, some, equal))
same_rising low (c ∷ cs) (d ∷ ds) one other same =
    let even : low_tenths c.bin ≡ low_tenths d.bin = elim (leb_tells (low_tenths c.bin) (low_tenths d.bin)) [
      | inr h ↦ absurd (not_lower low d c ds cs other one (λ bin. sym (same bin)) h.1)
      | inl h ↦ elim (leb_tells (low_tenths d.bin) (low_tenths c.bin)) [
        | inr g ↦ absurd (not_lower low c d cs ds one other same g.1)
        | inl g ↦ let a = h.1 in let b = g.1 in omega (arith, a, b)
      ]
    ] in
    let bin_same : c.bin ≡ d.bin = same_low c.bin d.bin one.2 other.2 even in
    let count_same : c.count ≡ d.count =
    sym (first_count low c cs one) ∙ same c.bin ∙ ap (λ (b : Bin). count_of (d ∷ ds) b) bin_same
    ∙ first_count low d ds other in
    let first : c ≡ d = λ i. record { bin = bin_same i; count = count_same i } in
    cons_same first (same_rising (low_tenths c.bin + 1) cs ds one.3
    (subst (λ (n : ℕ). RisesFrom (n + 1) ds) (sym even) other.3) (λ bin.
    let left = sum_by-cons (λ (b : BinCount). cond (is_same b.bin bin) b.count 0) c cs in
    let right = sum_by-cons (λ (b : BinCount). cond (is_same b.bin bin) b.count 0) d ds in
    let heads : cond (is_same c.bin bin) c.count 0
    ≡ cond (is_same d.bin bin) d.count 0 = ap (λ (b : BinCount). cond (is_same b.bin bin) b.count 0) first in
    let all = same bin in
    omega (arith, left, right, heads, all)))

pub same_bins : (cs ds : List BinCount) → IsBinList cs → IsBinList ds → SameCounts cs ds → cs ≡ ds
same_bins cs ds one other same = same_rising 0 cs ds (rise cs one) (rise ds other) same

part_of : List BinCount → Part
part_of bins = record { worker = 0; id = record { 0 = 0 }; bins = bins }

pub merged_rises : (cs ds : List BinCount) → IsBinList cs → AreLawful ds → IsBinList (merged cs ds)
unfolding part_of
merged_rises cs ds is lawful =
    subst (λ (l : List BinCount). IsBinList (merged l ds)) (merged-IsBinList cs is)
    (sums_rise (part_of cs ∷ part_of ds ∷ []) (is.lawful, (lawful, tt)))

pub none_rise : IsBinList []
none_rise = record { lawful = refl; rising = λ k short. absurd (omega (arith, short)); some = refl }

-- what was merged into nothing first is merged as it is
pub merged_once : (cs ds : List BinCount) → IsBinList cs → AreLawful ds → merged cs (merged [] ds) ≡ merged cs ds
merged_once cs ds is lawful =
    let middle = merged_rises [] ds none_rise lawful in
    same_bins (merged cs (merged [] ds)) (merged cs ds) (merged_rises cs (merged [] ds) is middle.lawful)
    (merged_rises cs ds is lawful)
    (λ bin.
    let one = count_of-merged cs (merged [] ds) bin in
    let two = count_of-merged [] ds bin in
    let three = count_of-merged cs ds bin in
    omega (arith, one, two, three))
