use Rattle.std.proofs.Common.{◌≡◌, ◌++◌, take}
use Rattle.prom_text.specs.Labels.{escaped}
use Rattle.prom_text.proofs.labels.put_escaped.Given as goal

abbrev pub invariant-loop-b : goal.invariant-loop-b
invariant-loop-b l = l.text.items ≡ l.fn.text.items ++ escaped (take l.b-index l.value)
