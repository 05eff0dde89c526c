use Rattle.std.proofs.Common.{rules}
use Rattle.boot_load.proofs.Paths.{paths_more}
use Rattle.boot_load.proofs.building.paths_in.Goals as goal

pub loop-i-preserved : goal.loop-i-preserved
loop-i-preserved c = rw (paths_more c.args.list.now c.loop-i.i c.args.part.now) (search rules)
