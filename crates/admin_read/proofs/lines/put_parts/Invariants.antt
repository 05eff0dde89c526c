use Rattle.std.proofs.Common.{◌≡◌, ◌++◌, take}
use Rattle.admin_read.specs.Rows.{spaced_parts}
use Rattle.admin_read.proofs.lines.put_parts.Given as goal

abbrev pub invariant-loop-q : goal.invariant-loop-q
invariant-loop-q l = l.text.items ≡ l.fn.text.items ++ spaced_parts l.interval l.cumulative (take l.q-index l.quantiles)
