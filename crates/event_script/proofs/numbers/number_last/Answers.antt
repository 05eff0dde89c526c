use Rattle.std.proofs.Common.{sym}
use Rattle.std.proofs.lemmas.List.{take_rest}
use Rattle.event_script.proofs.LineParts.{number_over, number_lacks, number_goes_on, number_reads_here}
use Rattle.event_script.proofs.numbers.number_last.Goals as goal

pub returns-in_default : goal.returns-in_default
returns-in_default c = number_over c.args.text.now c.args.most c.ranges.most.fits c.in_default.ensures

pub returns-then-not-is_numeral : goal.returns-then-not-is_numeral
returns-then-not-is_numeral c =
    number_lacks c.args.text.now c.args.most c.ranges.most.fits c.in-Some.n c.in-Some.count c.in-Some.ensures.0 c.if-not-is_numeral.ensures

pub returns-then-not-is_end : goal.returns-then-not-is_end
returns-then-not-is_end c =
    let no_end = rw take_rest at (sym c.if-not-is_end.ensures) in
    number_goes_on c.args.text.now c.args.most c.ranges.most.fits c.in-Some.n c.in-Some.count c.in-Some.ensures.0 no_end

pub returns : goal.returns
returns c =
    let at_end = rw take_rest at (sym c.if-not-is_end.ensures) in
    rw take_rest (
      number_reads_here c.args.text.now c.args.most c.ranges.most.fits c.in-Some.n c.in-Some.count c.in-Some.ensures.0 c.in-Some.ensures.1 c.if-not-is_numeral.ensures at_end,
      c.in-Some.ensures.1,
    )
