use Rattle.std.proofs.Common.{◌≡◌}
use Rattle.boot_load.specs.Asked.{paths_in}
use Rattle.boot_load.proofs.building.paths_in.Given as goal

abbrev pub invariant-loop-i : goal.invariant-loop-i
invariant-loop-i l = l.paths.items ≡ paths_in l.list l.i l.part
