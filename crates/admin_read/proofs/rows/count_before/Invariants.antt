use Rattle.std.proofs.Common.{◌≡◌, ◌+◌, drop}
use Rattle.std.specs.List.{prefix_len}
use Rattle.admin_read.specs.Admin.{stands_before}
use Rattle.admin_read.proofs.rows.count_before.Given as goal

abbrev pub invariant-loop-i : goal.invariant-loop-i
invariant-loop-i l = prefix_len (stands_before l.gauge) l.counters ≡ l.i + prefix_len (stands_before l.gauge) (drop l.i l.counters)
