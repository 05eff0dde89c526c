use Rattle.std.proofs.Common.{arith}
use Rattle.stat_defs.specs.Borrowed.{event_of}
use Rattle.event_script.proofs.EventLines.{line_says}
use Rattle.event_script.proofs.cutting.said_with.Goals as goal

pub returns : goal.returns
returns c = λ line found long. (omega (arith, long, c.if-count-gt-MAX_LINE_BYTES.false), line_says line (event_of c.args.event) found)
