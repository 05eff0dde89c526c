use Rattle.std.proofs.Common.{◌≡◌, ◌++◌, take}
use Rattle.std.specs.List.{flat_map}
use Rattle.prom_text.specs.Prometheus.{bound_line}
use Rattle.prom_text.proofs.lines.put_bounds.Given as goal

abbrev pub invariant-loop-bound : goal.invariant-loop-bound
invariant-loop-bound l = l.text.items ≡ l.fn.text.items ++ flat_map (bound_line l.row) (take l.bound-index l.bound-items)
