-- How great packets may be.
use Rattle.std.proofs.Common.{◌≡◌, ◌+◌, ◌*◌, ◌<◌, ◌≤◌, ◌^◌, ℕ, Bool, true, false, sym, ◌∙◌, arith, inl, inr}
use Rattle.std.proofs.Math.Nat.{le-max_left, le-max_right, mul-le-mul_left}
use Rattle.std.proofs.Math.Pow.{pow_mono}
use Rattle.std.proofs.lemmas.Bool.{false≢true, cases_lt}
use Rattle.run_gates.specs.Pacing.{IsShared, IsGreatest}

pub single : (workers every : ℕ) → IsShared workers every 0
single workers every = let top = le-max_right every workers in omega (arith, top)

pub shared : (workers every bits : ℕ) → workers * 2 ^ bits ≤ every → IsShared workers every bits
shared workers every bits few = let top = le-max_left every workers in omega (arith, few, top)

-- where the next size is too great, each greater one is
pub greatest : (workers every bits next : ℕ) (fits : Bool) → bits + 1 ≡ next → next ≤ 6 → fits ≡ false → (workers * 2 ^ next ≤ every → fits ≡ true) → IsGreatest workers every bits
greatest workers every bits next fits last low not tells = record { few = omega (arith, last, low); above = λ more up most. above more up } where
  too_many : every < workers * 2 ^ next
  too_many = elim (cases_lt every (workers * 2 ^ next)) [ inl less ↦ less | inr few ↦ absurd (false≢true (sym not ∙ tells few)) ]

  above : (more : ℕ) → bits < more → every < workers * 2 ^ more
  above more up = let grown = mul-le-mul_left workers (pow_mono {i = next} {j = more} (omega (arith, up, last))) in let few = too_many in omega (arith, grown, few)

pub at_end : (workers every bits : ℕ) → bits ≡ 6 → IsGreatest workers every bits
at_end workers every bits all = record { few = omega (arith, all); above = λ more up most. absurd (omega (arith, up, most, all)) }
