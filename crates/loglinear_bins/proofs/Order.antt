-- Bins rise with their places.
use Rattle.std.proofs.Common.{◌≡◌, ℕ, suc, zero, pos, ◌+◌, ◌-◌, ◌*◌, ◌/◌, ◌%◌, ◌^◌, ◌<◌, ◌≤◌, false, refl, ap, arith, inl, inr}
use Rattle.std.proofs.lemmas.Bool.{cases_lt, cases_order, false_from_ne_true}
use Rattle.loglinear_bins.specs.Bins.{is_same, low_tenths}
use Rattle.loglinear_bins.specs.Table.{bin_at}
use Rattle.loglinear_bins.proofs.Powers.{pow_ten_more, pow_ten_some}
use Rattle.loglinear_bins.proofs.Places.{is_same-true, bin_at-first, bin_at-row}

low_tenths-at : (val e : ℕ) → low_tenths (record { val = val; exp = pos e }) ≡ val * 10 ^ e
unfolding low_tenths
low_tenths-at val e = refl

low-first : (k : ℕ) → k < 10 → low_tenths (bin_at k) ≡ 10 * k
low-first k small = rw (bin_at-first k small, low_tenths-at (10 * k) 0) (omega arith)

low-row : (k q r : ℕ) → r < 90 → k ≡ q * 90 + r + 10 → low_tenths (bin_at k) ≡ (r + 10) * (10 * 10 ^ q)
low-row k q r small is = rw (bin_at-row k q r small is, low_tenths-at (r + 10) (q + 1), pow_ten_more q) refl

-- each bin begins below the next one
low-next : (k : ℕ) → low_tenths (bin_at k) < low_tenths (bin_at (suc k))
low-next k = elim (cases_lt k 9) [
  | inl small ↦ omega (arith, low-first k (omega arith), low-first (suc k) (omega arith))
  | inr large ↦ elim (cases_order k 9) [
    | inl nine ↦ omega (arith, low-first k (omega arith), low-row (suc k) 0 0 (omega arith) (omega arith))
    | inr other ↦
        let q : ℕ = (k - 10) / 90 in
        let r : ℕ = (k - 10) % 90 in
        let above : 10 ≤ k = elim other [ inl less ↦ absurd (omega arith) | inr more ↦ omega arith ] in
        row k q r above (omega arith) (omega arith)
  ]
]
  where
    row : (k q r : ℕ) → 10 ≤ k → r < 90 → k ≡ q * 90 + r + 10 → low_tenths (bin_at k) < low_tenths (bin_at (suc k))
    row k q r above small is = elim (cases_lt r 89) [
      | inl inside ↦ rw (low-row k q r small is, low-row (suc k) q (r + 1) (omega arith) (omega arith)) (let some = pow_ten_some q in omega arith)
      | inr last ↦ rw (low-row k q r small is, low-row (suc k) (q + 1) 0 (omega arith) (omega arith), pow_ten_more q) (let some = pow_ten_some q in let end : r ≡ 89 = omega arith in rw end (omega arith))
    ]

low-above : (k d : ℕ) → low_tenths (bin_at k) < low_tenths (bin_at (k + suc d))
low-above k zero = let next : k + 1 ≡ suc k = omega arith in rw next (low-next k)
low-above k (suc d) =
    let next : k + suc (suc d) ≡ suc (k + suc d) = omega arith in
    rw next (omega (arith, low-above k d, low-next (k + suc d)))

-- a bin at a lower place begins lower
pub low_tenths-bin_at : (j k : ℕ) → j < k → low_tenths (bin_at j) < low_tenths (bin_at k)
low_tenths-bin_at j k below =
    let far : j + suc (k - suc j) ≡ k = omega arith in
    rw far at (low-above j (k - suc j))

-- and is another one
pub other_bin : (j k : ℕ) → j < k → is_same (bin_at j) (bin_at k) ≡ false
other_bin j k below = false_from_ne_true _ (λ same.
    let lower = low_tenths-bin_at j k below in
    let even : low_tenths (bin_at j) ≡ low_tenths (bin_at k) = ap low_tenths (is_same-true (bin_at j) (bin_at k) same) in
    omega arith)

pub other_bin_back : (j k : ℕ) → j < k → is_same (bin_at k) (bin_at j) ≡ false
other_bin_back j k below = false_from_ne_true _ (λ same.
    let lower = low_tenths-bin_at j k below in
    let even : low_tenths (bin_at k) ≡ low_tenths (bin_at j) = ap low_tenths (is_same-true (bin_at k) (bin_at j) same) in
    omega arith)
