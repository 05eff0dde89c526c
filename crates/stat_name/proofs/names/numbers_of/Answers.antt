use Rattle.std.proofs.Common.{length, arith, ap}
use Rattle.std.proofs.lemmas.Bool.Decides.{nat_tests}
use Rattle.stat_name.proofs.Storing.{tail_is, name_goes_on, name_next, name_ends}
use Rattle.stat_name.proofs.Spellings.{spelling_first}
use Rattle.stat_name.proofs.names.numbers_of.Goals as goal
use Rattle.stat_name.proofs.names.numbers_of.Goals.{then-n-eq0-via-then-n-eq0, then-n-eq0-via-else-n-eq0+then-len-eq-MAX_NUMBERS}

pub returns-in_default : goal.returns-in_default
returns-in_default c = λ name is.
    let on = name_goes_on c.args.bytes.now c.loop-at.numbers.items c.loop-at.at c.loop-at.invariant name is c.loop-at-test.true in
    let none = rw (tail_is c.args.bytes.now c.loop-at.at) at c.in_default.ensures in
    none on.0 on.3

pub returns-then-n-eq0 : goal.returns-then-n-eq0
returns-then-n-eq0 c = λ name is.
    let first = rw (tail_is c.args.bytes.now c.loop-at.at) at c.in-Some.ensures in
    let next = name_next c.args.bytes.now c.loop-at.numbers.items c.loop-at.at c.loop-at.invariant name is c.loop-at-test.true c.in-Some.n first.0 in
    elim c.then-n-eq0.branch [
      | then-n-eq0-via-then-n-eq0 w ↦ absurd (omega (arith, next.0))
      | then-n-eq0-via-else-n-eq0+then-len-eq-MAX_NUMBERS w ↦ absurd (omega (arith, next.1))
    ]

pub loop-at-smaller : goal.loop-at-smaller
loop-at-smaller c =
    let some = spelling_first c.in-Some.n in
    let long = ap length some.2 in
    let len = c.in-Some.ensures.1 in
    let before = c.loop-at-test.true in
    omega arith

pub returns-then-is_empty : goal.returns-then-is_empty
returns-then-is_empty c = λ name is.
    let some = name_ends c.args.bytes.now c.loop-at.numbers.items c.loop-at.at c.loop-at.invariant name is c.loop-at-test.false in
    grind (arith, nat_tests)
