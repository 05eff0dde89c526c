use Rattle.std.proofs.Common.{rules}
use Rattle.stats_io.proofs.pulling.pull_by.Goals as goal

pub returns-in-End-clause-stops : goal.returns-in-End-clause-stops
returns-in-End-clause-stops g c = (search rules, c.in-End.ensures.bytes.1)
