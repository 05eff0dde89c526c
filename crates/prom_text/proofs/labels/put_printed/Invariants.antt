use Rattle.std.proofs.Common.{◌≡◌, ◌≤◌, ◌+◌, ◌-◌, ◌++◌, map, take, length}
use Rattle.std.specs.Vec.{vec_len, vec_capacity}
use Rattle.prom_text.specs.Labels.{printed_byte}
use Rattle.prom_text.proofs.labels.put_printed.Given as goal

abbrev pub invariant-loop-b : goal.invariant-loop-b
invariant-loop-b l =
    (l.text.items ≡ l.fn.text.items ++ map printed_byte (take l.b-index l.bytes))
    × (vec_len l.text + (length l.bytes - l.b-index) ≤ vec_capacity l.text)
