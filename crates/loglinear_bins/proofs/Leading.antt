-- The first digits of a number, and its bin.
use Rattle.std.proofs.Common.{◌≡◌, ℕ, suc, zero, pos, ◌+◌, ◌-◌, ◌*◌, ◌/◌, ◌%◌, ◌^◌, ◌<◌, ◌≤◌, List, [], ◌∷◌, ◌++◌, length, refl, ap, ◌∙◌, arith, length-append}
use Rattle.std.proofs.Math.Nat.{div-eq_of_lt, div-div-eq-div-mul, div-lt_iff_lt-mul}
use Rattle.std.proofs.lemmas.Nat.{le-div}
use Rattle.std.proofs.lemmas.Int.Digits.{digits_of_step}
use Rattle.std.specs.Int.Digits.{digits_of}
use Rattle.loglinear_bins.specs.Bins.{bin_of_value, bin_of_digits}
use Rattle.loglinear_bins.proofs.Powers.{pow_ten_more, pow_ten_some}

one_digit : (d : ℕ) → 0 < d → d < 10 → digits_of 10 d ≡ d ∷ []
one_digit d some small =
    let none : d / 10 ≡ 0 = div-eq_of_lt small in
    let same : d % 10 ≡ d = omega arith in
    digits_of_step 10 d (omega arith) some ∙ rw (none, same)

-- a number of two digits or more begins with the two that its quotient by a power of ten has
pub record Begins (e v : ℕ) : Type 0 where
  pub first : ℕ
  pub second : ℕ
  pub others : List ℕ
  pub digits : digits_of 10 v ≡ first ∷ second ∷ others
  pub many : length others ≡ e
  pub value : 10 * first + second ≡ v / 10 ^ e

quotient : (e v : ℕ) → v / 10 / 10 ^ e ≡ v / 10 ^ suc e
quotient e v =
    let more : 10 ^ suc e ≡ 10 * 10 ^ e = omega (arith, pow_ten_more e) in
    rw more (div-div-eq-div-mul v 10 (10 ^ e))

-- one digit more at the end
lengthened : (e v : ℕ) → 10 ≤ v → Begins e (v / 10) → Begins (suc e) v
lengthened e v large part = record {
  first = part.first;
  second = part.second;
  others = part.others ++ (v % 10 ∷ []);
  digits = digits_of_step 10 v (omega arith) (omega arith) ∙ rw part.digits;
  many = length-append part.others (v % 10 ∷ []) ∙ omega (arith, part.many);
  value = part.value ∙ quotient e v;
}

begins : (e v : ℕ) → 10 * 10 ^ e ≤ v → v < 100 * 10 ^ e → Begins e v
begins zero v reached below =
    let tens : digits_of 10 (v / 10) ≡ v / 10 ∷ [] = one_digit (v / 10) (omega arith) (omega arith) in
    record {
      first = v / 10;
      second = v % 10;
      others = [];
      digits = digits_of_step 10 v (omega arith) (omega arith) ∙ rw tens;
      many = refl;
      value = omega arith;
    }
begins (suc e) v reached below =
    let more : 10 ^ suc e ≡ 10 * 10 ^ e = omega (arith, pow_ten_more e) in
    let some = pow_ten_some e in
    lengthened e v (omega arith) (begins e (v / 10) (omega arith) (omega arith))

-- the bin of a number of one digit
pub bin-small : (v : ℕ) → v < 10 → bin_of_value v ≡ record { val = v * 10; exp = pos 0 }
unfolding bin_of_value
bin-small zero small = refl
bin-small (suc v) small = rw (one_digit (suc v) (omega arith) small) (ap (λ n. record { val = n; exp = pos 0 }) (omega arith))

bin-large-from : (e v : ℕ) → 10 * 10 ^ e ≤ v → v < 100 * 10 ^ e → bin_of_value v ≡ record { val = v / 10 ^ e; exp = pos (e + 1) }
unfolding bin_of_value
bin-large-from e v reached below =
    let b = begins e v reached below in
    ap bin_of_digits b.digits ∙ rw (b.value, b.many)

-- the bin of a number of two digits or more
pub bin-large : (exp v : ℕ) → 10 ≤ v → 10 ^ exp ≤ v → v < 10 ^ (exp + 1) → bin_of_value v ≡ record { val = v / 10 ^ (exp - 1); exp = pos exp }
bin-large zero v large reached below = absurd (omega arith)
bin-large (suc e) v large reached below =
    let same : suc e - 1 ≡ e = omega arith in
    let more : 10 ^ suc e ≡ 10 * 10 ^ e = omega (arith, pow_ten_more e) in
    rw same (bin-large-from e v (omega arith) (omega (arith, pow_ten_more (suc e))) ∙ ap (λ n. record { val = v / 10 ^ e; exp = pos n }) (omega arith))

-- its first two digits
pub two_digits : (exp v : ℕ) → 10 ≤ v → 10 ^ exp ≤ v → v < 10 ^ (exp + 1) → (10 ≤ v / 10 ^ (exp - 1)) × (v / 10 ^ (exp - 1) < 100) × (1 ≤ exp)
two_digits zero v large reached below = absurd (omega arith)
two_digits (suc e) v large reached below =
    let same : suc e - 1 ≡ e = omega arith in
    let more : 10 ^ suc e ≡ 10 * 10 ^ e = omega (arith, pow_ten_more e) in
    let some = pow_ten_some e in
    let low : 10 * 10 ^ e ≤ v = omega arith in
    let high : v < 100 * 10 ^ e = omega (arith, pow_ten_more (suc e)) in
    rw same (le-div 10 v (10 ^ e) some low, (div-lt_iff_lt-mul some).1 high, omega arith)
