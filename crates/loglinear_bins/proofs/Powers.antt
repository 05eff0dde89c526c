-- Powers of ten, and the table of them.
use Rattle.std.proofs.Common.{◌≡◌, ℕ, suc, ◌+◌, ◌-◌, ◌*◌, ◌/◌, ◌^◌, ◌<◌, ◌≤◌, zero, Bool, true, ◌&&◌, leb, eqb, get_or, refl, arith, add-one}
use Rattle.std.proofs.Math.Nat.{pow-suc, one-le-pow}
use Rattle.std.proofs.lemmas.Bool.{agree_below_at, eqb-true, leb-true, and_parts}
use Rattle.loglinear_bins.specs.declared.digits.TheConstants.{POWERS}

-- one digit more
pub pow_ten_more : (e : ℕ) → 10 ^ (e + 1) ≡ 10 * 10 ^ e
pow_ten_more e = rw (add-one, pow-suc) (omega arith)

pub pow_ten_some : (e : ℕ) → 1 ≤ 10 ^ e
pow_ten_some e = one-le-pow e 10 (omega arith)

-- the table has the powers
pub power_at : (e : ℕ) → e < 20 → get_or POWERS e 0 ≡ 10 ^ e
power_at e small = eqb-true _ _ (agree_below_at (λ k. eqb (get_or POWERS k 0) (10 ^ k)) (λ _. true) 20 e refl small)

abbrev is_guess : ℕ → Bool
is_guess log = leb (2 * 2 ^ log) (10 ^ ((log + 1) * 1233 / 4096 + 1)) && leb (10 ^ ((log + 1) * 1233 / 4096)) (10 * 2 ^ log)

-- the guess from the binary logarithm is right or one too many, at each of the 64 logarithms
pub guess_near : (log : ℕ) → log < 64 → (2 * 2 ^ log ≤ 10 ^ ((log + 1) * 1233 / 4096 + 1)) × (10 ^ ((log + 1) * 1233 / 4096) ≤ 10 * 2 ^ log)
guess_near log small =
    let parts = and_parts _ _ (agree_below_at is_guess (λ _. true) 64 log refl small) in
    (leb-true _ _ parts.0, leb-true _ _ parts.1)

-- one digit less
pub one_less : (e : ℕ) → 1 < 10 ^ e → 10 * 10 ^ (e - 1) ≡ 10 ^ e
one_less zero large = absurd (omega arith)
one_less (suc e) large = let f : suc e - 1 ≡ e = omega arith in rw (f, pow-suc) (omega arith)
