-- Which bins are lawful: those of the table's places, and those of 64-bit values.
use Rattle.std.proofs.Common.{◌≡◌, ℕ, suc, zero, pos, ◌+◌, ◌-◌, ◌*◌, ◌/◌, ◌%◌, ◌^◌, ◌<◌, ◌≤◌, true, arith, ◌⊎◌, inl, inr}
use Rattle.std.proofs.lemmas.Bool.{and_from, eq-eqb, le-leb, lt-ltb, or_left, or_right, cases_lt}
use Rattle.std.proofs.lemmas.Nat.{div_below}
use Rattle.loglinear_bins.specs.declared.place.TheConstants.{BIN_COUNT}
use Rattle.loglinear_bins.specs.Bins.{is_lawful, bin_of_value}
use Rattle.loglinear_bins.specs.Table.{bin_at}
use Rattle.loglinear_bins.proofs.Leading.{bin-small, bin-large, two_digits}
use Rattle.loglinear_bins.proofs.Places.{bin_at-first, bin_at-later}

lawful-first : (val : ℕ) → val % 10 ≡ 0 → val ≤ 90 → is_lawful (record { val = val; exp = pos 0 }) ≡ true
lawful-first val tens most = and_from _ _ (eq-eqb _ _ tens) (le-leb _ _ most)

lawful-later : (val e : ℕ) → 10 ≤ val → val ≤ 99 → (e < 18) ⊎ ((e ≡ 18) × (val ≤ 18)) → is_lawful (record { val = val; exp = pos (suc e) }) ≡ true
lawful-later val e low high (inl below) = and_from _ _ (and_from _ _ (le-leb _ _ low) (le-leb _ _ high)) (or_left _ _ (lt-ltb (suc e) 19 (omega arith)))
lawful-later val e low high (inr last) = and_from _ _ (and_from _ _ (le-leb _ _ low) (le-leb _ _ high)) (or_right _ _ (and_from _ _ (eq-eqb (suc e) 19 (omega (arith, last.0))) (le-leb _ _ last.1)))

-- the bins of the places are lawful
pub is_lawful-bin_at : (k : ℕ) → k < BIN_COUNT → is_lawful (bin_at k) ≡ true
is_lawful-bin_at k below = elim (cases_lt k 10) [
  | inl small ↦ rw (bin_at-first k small) (lawful-first (10 * k) (omega arith) (omega arith))
  | inr large ↦
      let row : ℕ = (k - 10) / 90 in
      let next : (k - 10) / 90 + 1 ≡ suc ((k - 10) / 90) = omega arith in
      rw (bin_at-later k large, next) (lawful-later ((k - 10) % 90 + 10) ((k - 10) / 90) (omega arith) (omega arith) (elim (cases_lt ((k - 10) / 90) 18) [
        | inl inside ↦ inl inside
        | inr last ↦ inr (omega arith, omega arith)
      ]))
]

record HasDigits (v n : ℕ) : Type 0 where
  exp : ℕ
  few : exp < n
  reached : 10 ^ exp ≤ v
  below : v < 10 ^ (exp + 1)

has_digits : (n v : ℕ) → 0 < v → v < 10 ^ n → HasDigits v n
has_digits zero v some below = absurd (omega arith)
has_digits (suc n) v some below = elim (cases_lt v (10 ^ n)) [
  | inl less ↦ let part : HasDigits v n = has_digits n v some less in record { exp = part.exp; few = omega (arith, part.few); reached = part.reached; below = part.below }
  | inr reached ↦ record { exp = n; few = omega arith; reached = reached; below = let e : n + 1 ≡ suc n = omega arith in rw e below }
]

-- the bins of 64-bit values are lawful
pub is_lawful-bin_of_value : (v : ℕ) → v < 2 ^ 64 → is_lawful (bin_of_value v) ≡ true
is_lawful-bin_of_value v small = elim (cases_lt v 10) [
  | inl one ↦ rw (bin-small v one) (lawful-first (v * 10) (omega arith) (omega arith))
  | inr large ↦
      let d : HasDigits v 20 = has_digits 20 v (omega arith) (omega arith) in
      let two = two_digits d.exp v large d.reached d.below in
      rw (bin-large d.exp v large d.reached d.below) (later v d.exp small d.few two.0 two.1 two.2)
]
  where
    later : (v exp : ℕ) → v < 2 ^ 64 → exp < 20 → 10 ≤ v / 10 ^ (exp - 1) → v / 10 ^ (exp - 1) < 100 → 1 ≤ exp → is_lawful (record { val = v / 10 ^ (exp - 1); exp = pos exp }) ≡ true
    later v zero small few low high some = absurd (omega arith)
    later v (suc e) small few low high some = lawful-later (v / 10 ^ (suc e - 1)) e low (omega arith) (elim (cases_lt e 18) [
      | inl inside ↦ inl inside
      | inr last ↦
          let end : e ≡ 18 = omega arith in
          let same : suc e - 1 ≡ 18 = omega arith in
          inr (end, rw same (omega (arith, div_below v (10 ^ 18) 19 (omega arith) (omega arith))))
    ])
