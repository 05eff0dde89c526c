use Rattle.std.proofs.Common.{sym, arith}
use Rattle.stat_defs.specs.Borrowed.{event_of}
use Rattle.event_script.proofs.CutLines.{says_before, says_last, none_says, line_length, some_bytes, no_length}
use Rattle.event_script.proofs.cutting.said_first.Goals as goal

pub overflow_sub-length : goal.overflow_sub-length
overflow_sub-length c = omega (arith, line_length c.args.stopped c.args.bytes.now (event_of c.in-Some.event) c.in-Some.after.now c.in-Some.ensures)

pub returns-then-not-is_empty : goal.returns-then-not-is_empty
returns-then-not-is_empty c =
    let long = line_length c.args.stopped c.args.bytes.now (event_of c.in-Some.event) c.in-Some.after.now c.in-Some.ensures in
    says_before c.args.stopped c.args.bytes.now (event_of c.in-Some.event) c.in-Some.after.now c.in-Some.ensures c.said_with.result _ c.said_with.ensures (omega (arith, long))
    (some_bytes c.in-Some.after.now (sym c.if-not-is_empty.ensures))

pub returns-then-not-is_line : goal.returns-then-not-is_line
returns-then-not-is_line c =
    let long = line_length c.args.stopped c.args.bytes.now (event_of c.in-Some.event) c.in-Some.after.now c.in-Some.ensures in
    none_says c.args.stopped c.args.bytes.now (event_of c.in-Some.event) c.in-Some.after.now c.in-Some.ensures _ (omega (arith, long))
    (no_length c.in-Some.after.now (sym c.if-not-is_empty.ensures)) (sym c.if-not-is_line.ensures)

pub returns : goal.returns
returns c =
    let long = line_length c.args.stopped c.args.bytes.now (event_of c.in-Some.event) c.in-Some.after.now c.in-Some.ensures in
    says_last c.args.stopped c.args.bytes.now (event_of c.in-Some.event) c.in-Some.after.now c.in-Some.ensures c.said_with-2.result _ c.said_with-2.ensures (omega (arith, long))
    (no_length c.in-Some.after.now (sym c.if-not-is_empty.ensures)) (sym c.if-not-is_line.ensures)
