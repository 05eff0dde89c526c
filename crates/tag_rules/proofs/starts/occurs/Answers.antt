use Rattle.std.proofs.Common.{arith}
use Rattle.tag_rules.proofs.starts.occurs.Goals as goal

pub returns-in-None : goal.returns-in-None
returns-in-None c k occurs = absurd (c.in-None.ensures k (omega arith) (omega (arith, occurs.fits)) occurs)
