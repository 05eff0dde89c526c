use Rattle.std.proofs.Common.{◌≡◌, ◌+◌, arith, get_or}
use Rattle.std.specs.Char.{digit_value}
use Rattle.std.proofs.lemmas.Int.Digits.{digits_more, digits_value_more}
use Rattle.event_script.proofs.numbers.digits_first.Goals as goal

pub returns-in_default : goal.returns-in_default
returns-in_default c =
    let digit : c.digit_of-digit.result ≡ digit_value (get_or c.args.text.now c.loop-at.at 0) = c.digit_of-digit.ensures.digit (omega (arith, c.if-digit-ge10.false)) in
    let e = digits_value_more 10 c.args.text.now c.loop-at.at c.loop-at-test.true in
    record {
      count = c.loop-at.at + 1;
      within = omega arith;
      digits = digits_more 10 c.args.text.now c.loop-at.at c.loop-at-test.true c.loop-at.invariant.digits (omega (arith, digit, c.if-digit-ge10.false));
      over = omega (arith, e, c.loop-at.invariant.value, digit, c.in_default.ensures);
    }

pub loop-at-preserved : goal.loop-at-preserved
loop-at-preserved c =
    let digit : c.digit_of-digit.result ≡ digit_value (get_or c.args.text.now c.loop-at.at 0) = c.digit_of-digit.ensures.digit (omega (arith, c.if-digit-ge10.false)) in
    let e = digits_value_more 10 c.args.text.now c.loop-at.at c.loop-at-test.true in
    record {
      digits = digits_more 10 c.args.text.now c.loop-at.at c.loop-at-test.true c.loop-at.invariant.digits (omega (arith, digit, c.if-digit-ge10.false));
      value = omega (arith, e, c.loop-at.invariant.value, digit, c.in-Some.ensures.0);
      most = c.in-Some.ensures.1;
    }
