use Rattle.std.proofs.Common.{◌≡◌, map, take}
use Rattle.plain_store.specs.Sums.{delta_of}
use Rattle.plain_store.proofs.record.deltas_of.Given as goal

abbrev pub invariant-loop-id : goal.invariant-loop-id
invariant-loop-id l = l.shown.items ≡ map (delta_of l.deltas) (take l.id-index l.ids)
