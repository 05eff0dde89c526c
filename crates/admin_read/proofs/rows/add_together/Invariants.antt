use Rattle.std.proofs.Common.{◌≡◌, ◌++◌, map, drop}
use Rattle.admin_read.specs.Admin.{together}
use Rattle.admin_read.specs.Rows.{stat_of}
use Rattle.admin_read.proofs.rows.add_together.Given as goal

abbrev pub invariant-loop-gauge : goal.invariant-loop-gauge
invariant-loop-gauge l =
    map stat_of l.rows.items ++ together l.others (drop l.gauge-index l.gauges)
    ≡ map stat_of l.fn.rows.items ++ together l.counters l.gauges
