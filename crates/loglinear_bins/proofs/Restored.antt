-- A list of bins that is rising and without empty ones is what it adds up to.
use Rattle.std.proofs.Common.{◌≡◌, ℕ, suc, zero, ◌+◌, ◌<◌, true, false, List, [], ◌∷◌, ◌++◌, length, get_or, refl, sym, ap, ◌∙◌, arith, ltb, append-nil, append_assoc}
use Rattle.std.specs.List.{list_all}
use Rattle.std.specs.List.Sorted.{IsStrictlyIncreasing}
use Rattle.std.proofs.lemmas.Bool.{and_parts, ltb-true, le-ltb, false_from_ne_true}
use Rattle.stat_defs.specs.declared.bins.Bin.{Bin}
use Rattle.stat_defs.specs.declared.bins.BinCount.{BinCount}
use Rattle.loglinear_bins.specs.Bins.{is_same, low_tenths}
use Rattle.loglinear_bins.specs.Counts.{IsBinList, placed, added, merged}
use Rattle.loglinear_bins.proofs.Rising.{lows}
use Rattle.loglinear_bins.proofs.Places.{is_same-true}

rising-tail : (x : ℕ) (xs : List ℕ) → IsStrictlyIncreasing (x ∷ xs) → IsStrictlyIncreasing xs
rising-tail x xs rising k short = let next : suc k + 1 ≡ suc (k + 1) = omega arith in rw next at (rising (suc k) (omega arith))

-- the first of rising numbers is below each later one
first_below : (x : ℕ) (xs : List ℕ) (k : ℕ) → IsStrictlyIncreasing (x ∷ xs) → k < length xs → x < get_or xs k 0
first_below x xs zero rising short = rising 0 (omega arith)
first_below x xs (suc k) rising short =
    let next : k + 1 ≡ suc k = omega arith in
    let step : get_or xs k 0 < get_or xs (suc k) 0 = rw next at (rising-tail x xs rising k (omega arith)) in
    omega (arith, first_below x xs k rising (omega arith))

at_middle : (before after : List BinCount) (c : BinCount) → (length before < length (lows (before ++ c ∷ after))) × (get_or (lows (before ++ c ∷ after)) (length before) 0 ≡ low_tenths c.bin)
at_middle [] after c = (omega arith, refl)
at_middle (b ∷ before) after c = let part = at_middle before after c in (omega (arith, part.0), part.1)

-- a bin that begins above all others is placed last
placed-last : (before after : List BinCount) (c : BinCount) → IsStrictlyIncreasing (lows (before ++ c ∷ after)) → placed before c.bin c.count ≡ before ++ c ∷ []
placed-last [] after c rising = refl
placed-last (b ∷ before) after c rising =
    let middle = at_middle before after c in
    let below : low_tenths b.bin < low_tenths c.bin = omega (arith, first_below (low_tenths b.bin) (lows (before ++ c ∷ after)) (length before) rising middle.0, middle.1) in
    let other : is_same b.bin c.bin ≡ false = false_from_ne_true _ (λ same. let even : low_tenths b.bin ≡ low_tenths c.bin = ap low_tenths (is_same-true b.bin c.bin same) in omega arith) in
    let above : ltb (low_tenths c.bin) (low_tenths b.bin) ≡ false = le-ltb _ _ (omega arith) in
    rw (other, above) (ap (λ (cs : List BinCount). b ∷ cs) (placed-last before after c (rising-tail (low_tenths b.bin) (lows (before ++ c ∷ after)) rising)))

added-some : (counts : List BinCount) (bin : Bin) (n : ℕ) → 0 < n → added counts bin n ≡ placed counts bin n
added-some counts bin zero some = absurd (omega arith)
added-some counts bin (suc n) some = refl

merged-rising : (before after : List BinCount) → IsStrictlyIncreasing (lows (before ++ after)) → list_all (λ (c : BinCount). ltb 0 c.count) after ≡ true → merged before after ≡ before ++ after
merged-rising before [] rising some = sym (append-nil before)
merged-rising before (c ∷ after) rising some =
    let parts = and_parts _ _ some in
    let one : added before c.bin c.count ≡ before ++ c ∷ [] = added-some before c.bin c.count (ltb-true _ _ parts.0) ∙ placed-last before after c rising in
    let whole : (before ++ c ∷ []) ++ after ≡ before ++ c ∷ after = append_assoc before (c ∷ []) after in
    ap (λ cs. merged cs after) one ∙ (merged-rising (before ++ c ∷ []) after (rw whole rising) parts.1 ∙ whole)

pub merged-IsBinList : (counts : List BinCount) → IsBinList counts → merged [] counts ≡ counts
merged-IsBinList counts is = merged-rising [] counts is.rising is.some
