-- A sum of parts is lawful, rises and has no empty bin.
use Rattle.std.proofs.Common.{true≢false, ◌≡◌, ℕ, zero, suc, ◌+◌, ◌<◌, ◌≤◌, ◌&&◌, Bool, true, false, cond, List, [], ◌∷◌, map, nat_lt, refl, ap, sym, subst, ◌∙◌, arith, inl, inr}
use Rattle.std.specs.Prelude.{fold}
use Rattle.std.specs.List.{list_all, AllByRecursion}
use Rattle.std.specs.List.Sorted.{IsStrictlyIncreasing}
use Rattle.std.proofs.lemmas.Bool.{cases_Bool}
use Rattle.std.proofs.lemmas.Bool.Decides.{eqb_tells, leb_tells, Decides-ltb}
use Rattle.stat_defs.specs.declared.bins.Bin.{Bin}
use Rattle.stat_defs.specs.declared.bins.BinCount.{BinCount}
use Rattle.stat_defs.specs.declared.reports.Part.{Part}
use Rattle.loglinear_bins.specs.Bins.{is_lawful, is_same, low_tenths}
use Rattle.loglinear_bins.specs.Counts.{AreLawful, IsBinList, placed, added, merged}
use Rattle.loglinear_bins.specs.Table.{place_of, bin_at}
use Rattle.loglinear_bins.proofs.Order.{low_tenths-bin_at}
use Rattle.loglinear_bins.proofs.Places.{is_same-refl, bin_at-place_of}

pub both_hold : (a b : Bool) → (a && b) ≡ true → (a ≡ true) × (b ≡ true)
both_hold true b e = (refl, e)
both_hold false b e = absurd (true≢false (sym e))

pub and_so : (a b : Bool) → a ≡ true → b ≡ true → (a && b) ≡ true
and_so true b e f = f
and_so false b e f = absurd (true≢false (sym e))

lower_place : (b c : Bin) → is_lawful b ≡ true → is_lawful c ≡ true → place_of b < place_of c → low_tenths b < low_tenths c
lower_place b c lb lc below =
    let lower = low_tenths-bin_at (place_of b) (place_of c) below in
    let at_b : low_tenths (bin_at (place_of b)) ≡ low_tenths b = ap low_tenths (bin_at-place_of b lb) in
    let at_c : low_tenths (bin_at (place_of c)) ≡ low_tenths c = ap low_tenths (bin_at-place_of c lc) in
    omega (arith, lower, at_b, at_c)

-- another bin that does not begin below this one begins above it
above : (b c : Bin) → is_lawful b ≡ true → is_lawful c ≡ true → is_same c b ≡ false → nat_lt (low_tenths b) (low_tenths c) ≡ false → low_tenths c < low_tenths b
above b c lb lc other not_less = elim (leb_tells (place_of b) (place_of c)) [
  | inr h ↦ lower_place c b lc lb h.1
  | inl h ↦ elim (eqb_tells (place_of b) (place_of c)) [
    | inl same ↦
        let one : b ≡ c = sym (bin_at-place_of b lb) ∙ ap bin_at same.1 ∙ bin_at-place_of c lc in
        absurd (true≢false (sym (sym other ∙ ap (λ x. is_same c x) one ∙ is_same-refl c)))
    | inr apart ↦
        let low = h.1 in
        let less = lower_place b c lb lc (elim (leb_tells (place_of c) (place_of b)) [
          | inl g ↦ let high = g.1 in absurd (apart.1 (omega (arith, low, high)))
          | inr g ↦ g.1
        ]) in
        absurd (true≢false (sym ((Decides-ltb (low_tenths b) (low_tenths c)).1 less) ∙ not_less))
  ]
]

abbrev RisesFrom : ℕ → List BinCount → Type 0
RisesFrom lo [] = Unit {0}
RisesFrom lo (c ∷ cs) = (lo ≤ low_tenths c.bin) × RisesFrom (low_tenths c.bin + 1) cs

-- lawful, not empty and rising
record Good (lo : ℕ) (cs : List BinCount) : Type 0 where
  lawful : list_all (λ c. is_lawful c.bin) cs ≡ true
  some : list_all (λ c. nat_lt 0 c.count) cs ≡ true
  rise : RisesFrom lo cs

step : BinCount → List BinCount → Bin → ℕ → Bool → Bool → List BinCount
step c cs bin n same less = cond same ((record { bin = c.bin; count = c.count + n }) ∷ cs) (cond less ((record { bin = bin; count = n }) ∷ c ∷ cs) (c ∷ placed cs bin n))

module _ (bin : Bin) (n : ℕ) (is : is_lawful bin ≡ true) where
  positive : nat_lt 0 (suc n) ≡ true
  positive = (Decides-ltb 0 (suc n)).1 (omega arith)

  more : (m : ℕ) → nat_lt 0 (m + suc n) ≡ true
  more m = (Decides-ltb 0 (m + suc n)).1 (omega arith)

  placed-good : (lo : ℕ) (cs : List BinCount) → Good lo cs → lo ≤ low_tenths bin → Good lo (placed cs bin (suc n))
  unfolding step
  placed-good lo [] good low = record { lawful = and_so (is_lawful bin) true is refl; some = and_so (nat_lt 0 (suc n)) true positive refl; rise = (low, tt) }
  placed-good lo (c ∷ cs) good low =
      let lawful = both_hold (is_lawful c.bin) (list_all (λ x. is_lawful x.bin) cs) good.lawful in
      let some = both_hold (nat_lt 0 c.count) (list_all (λ x. nat_lt 0 x.count) cs) good.some in
      let tail : Good (low_tenths c.bin + 1) cs = record { lawful = lawful.1; some = some.1; rise = good.rise.1 } in
      elim (cases_Bool (is_same c.bin bin)) [
        | inl same ↦ subst (λ b. Good lo (step c cs bin (suc n) b (nat_lt (low_tenths bin) (low_tenths c.bin)))) (sym same) (record {
          lawful = good.lawful;
          some = and_so (nat_lt 0 (c.count + suc n)) (list_all (λ x. nat_lt 0 x.count) cs) (more c.count) some.1;
          rise = good.rise;
        })
        | inr other ↦ subst (λ b. Good lo (step c cs bin (suc n) b (nat_lt (low_tenths bin) (low_tenths c.bin)))) (sym other) (elim (cases_Bool (nat_lt (low_tenths bin) (low_tenths c.bin))) [
          | inl less ↦
              let below = (Decides-ltb (low_tenths bin) (low_tenths c.bin)).0 less in
              subst (λ b. Good lo (step c cs bin (suc n) false b)) (sym less) (record {
                lawful = and_so (is_lawful bin) (list_all (λ x. is_lawful x.bin) (c ∷ cs)) is good.lawful;
                some = and_so (nat_lt 0 (suc n)) (list_all (λ x. nat_lt 0 x.count) (c ∷ cs)) positive good.some;
                rise = (low, (omega (arith, below), good.rise.1));
              })
          | inr not_less ↦
              let high = above bin c.bin is lawful.0 other not_less in
              let rest = placed-good (low_tenths c.bin + 1) cs tail (omega (arith, high)) in
              subst (λ b. Good lo (step c cs bin (suc n) false b)) (sym not_less) (record {
                lawful = and_so (is_lawful c.bin) (list_all (λ x. is_lawful x.bin) (placed cs bin (suc n))) lawful.0 rest.lawful;
                some = and_so (nat_lt 0 c.count) (list_all (λ x. nat_lt 0 x.count) (placed cs bin (suc n))) some.0 rest.some;
                rise = (good.rise.0, rest.rise);
              })
        ])
      ]

added-good : (cs : List BinCount) (bin : Bin) (n : ℕ) → is_lawful bin ≡ true → Good 0 cs → Good 0 (added cs bin n)
added-good cs bin zero is good = good
added-good cs bin (suc n) is good = placed-good bin n is 0 cs good (omega arith)

merged-good : (cs ps : List BinCount) → AreLawful ps → Good 0 cs → Good 0 (merged cs ps)
merged-good cs [] lawful good = good
merged-good cs (p ∷ ps) lawful good =
    let parts = both_hold (is_lawful p.bin) (list_all (λ x. is_lawful x.bin) ps) lawful in
    merged-good (added cs p.bin p.count) ps parts.1 (added-good cs p.bin p.count parts.0 good)

all-good : (cs : List BinCount) (parts : List Part) → AllByRecursion (λ part. AreLawful part.bins) parts → Good 0 cs → Good 0 (fold merged cs (map (λ part. part.bins) parts))
all-good cs [] lawful good = good
all-good cs (part ∷ parts) lawful good = all-good (merged cs part.bins) parts lawful.1 (merged-good cs part.bins lawful.0 good)

rising-cons : (x y : ℕ) (ys : List ℕ) → x < y → IsStrictlyIncreasing (y ∷ ys) → IsStrictlyIncreasing (x ∷ y ∷ ys)
rising-cons x y ys first rising zero short = first
rising-cons x y ys first rising (suc k) short = let next : suc k + 1 ≡ suc (k + 1) = omega arith in rw next (rising k (omega (arith, short)))

rises : (lo : ℕ) (cs : List BinCount) → RisesFrom lo cs → IsStrictlyIncreasing (map (λ c. low_tenths c.bin) cs)
rises lo [] rise = λ k short. absurd (omega (arith, short))
rises lo (c ∷ []) rise = λ k short. absurd (omega (arith, short))
rises lo (c ∷ (d ∷ cs)) rise =
    let first = rise.1.0 in
    rising-cons (low_tenths c.bin) (low_tenths d.bin) (map (λ x. low_tenths x.bin) cs) (omega (arith, first)) (rises (low_tenths c.bin + 1) (d ∷ cs) rise.1)

pub sums_rise : (parts : List Part) → AllByRecursion (λ part. AreLawful part.bins) parts → IsBinList (fold merged [] (map (λ part. part.bins) parts))
sums_rise parts lawful =
    let good = all-good [] parts lawful (record { lawful = refl; some = refl; rise = tt }) in
    record { lawful = good.lawful; rising = rises 0 (fold merged [] (map (λ part. part.bins) parts)) good.rise; some = good.some }
