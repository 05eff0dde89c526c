use Rattle.std.proofs.Common.{◌≡◌, ◌++◌, map, take}
use Rattle.admin_read.specs.Admin.{CounterStat}
use Rattle.admin_read.specs.Rows.{stat_of}
use Rattle.admin_read.proofs.rows.add_counters.Given as goal

abbrev pub invariant-loop-row : goal.invariant-loop-row
invariant-loop-row l = map stat_of l.rows.items ≡ map stat_of l.fn.rows.items ++ map CounterStat (take l.row-index l.counters)
