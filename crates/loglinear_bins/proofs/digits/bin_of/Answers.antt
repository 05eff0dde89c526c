use Rattle.std.proofs.Common.{◌≡◌, w8, pos, ap, ◌∙◌, sym, arith, to_z}
use Rattle.loglinear_bins.specs.Bins.{is_lawful}
use Rattle.std.proofs.lemmas.Int.{to_z_pos}
use Rattle.loglinear_bins.proofs.Lawful.{is_lawful-bin_of_value}
use Rattle.loglinear_bins.proofs.Leading.{bin-small, bin-large, two_digits}
use Rattle.loglinear_bins.proofs.digits.bin_of.Goals as goal

pub returns-then-v-lt10-clause-bin : goal.returns-then-v-lt10-clause-bin
returns-then-v-lt10-clause-bin c = sym (bin-small c.args.v c.if-v-lt10.true)

pub overflow_cast-result-2 : goal.overflow_cast-result-2
overflow_cast-result-2 c =
    let exp = c.digits_after_first-exp in
    rw c.without_digits-val.ensures (omega (arith, two_digits exp.result c.args.v c.if-v-lt10.false exp.ensures.reached exp.ensures.below_next))

pub returns-clause-bin : goal.returns-clause-bin
returns-clause-bin c =
    let exp = c.digits_after_first-exp in
    let signed : to_z w8 exp.result ≡ pos exp.result = to_z_pos w8 exp.result (omega arith) in
    rw (signed, c.without_digits-val.ensures) (sym (bin-large exp.result c.args.v c.if-v-lt10.false exp.ensures.reached exp.ensures.below_next))

pub returns-then-v-lt10-clause-lawful : goal.returns-then-v-lt10-clause-lawful
returns-then-v-lt10-clause-lawful c =
    ap is_lawful (returns-then-v-lt10-clause-bin c) ∙ is_lawful-bin_of_value c.args.v (omega arith)

pub returns-clause-lawful : goal.returns-clause-lawful
returns-clause-lawful c = ap is_lawful (returns-clause-bin c) ∙ is_lawful-bin_of_value c.args.v (omega arith)
