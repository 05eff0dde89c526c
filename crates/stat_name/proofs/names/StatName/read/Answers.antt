use Rattle.stat_name.specs.StoredName.{Spells}
use Rattle.stat_name.proofs.Storing.{tail_is, name_number, name_fits, name_data, name_made}
use Rattle.std.proofs.Common.{arith, take, drop, subst}
use Rattle.stat_name.proofs.names.StatName.read.Goals as goal

pub returns-in_default : goal.returns-in_default
returns-in_default c = λ numbers is. c.in_default.ensures _ (name_number c.args.bytes.now numbers is)

pub returns-then-rest-len : goal.returns-then-rest-len
returns-then-rest-len c = λ numbers is.
    let short = rw (tail_is c.args.bytes.now c.in-Some.start) at c.if-rest-len.true in
    let fits = name_fits c.args.bytes.now c.in-Some.len c.in-Some.start c.in-Some.ensures.0 c.in-Some.ensures.1 numbers is in
    absurd (omega arith)

pub returns-in_default-2 : goal.returns-in_default-2
returns-in_default-2 c = λ numbers is.
    let answer = rw (tail_is c.args.bytes.now c.in-Some.start) at c.in_ok-numbers.ensures in
    let none = subst (Spells (take c.in-Some.len (drop c.in-Some.start c.args.bytes.now))) c.in_default-2.is answer in
    none numbers (name_data c.args.bytes.now c.in-Some.len c.in-Some.start c.in-Some.ensures.0 c.in-Some.ensures.1 numbers is)

pub returns : goal.returns
returns c =
    let answer = rw (tail_is c.args.bytes.now c.in-Some.start) at c.in_ok-numbers.ensures in
    let fits = rw (tail_is c.args.bytes.now c.in-Some.start) at c.if-rest-len.false in
    let found = subst (Spells (take c.in-Some.len (drop c.in-Some.start c.args.bytes.now))) c.in-Some-2.is answer in
    rw c.of.ensures (name_made c.args.bytes.now c.in-Some.len c.in-Some.start c.in-Some.ensures.0 c.in-Some.ensures.1 c.in-Some-2.numbers fits found)
