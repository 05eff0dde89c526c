use Rattle.std.proofs.Common.{◌≡◌, map, take}
use Rattle.plain_store.specs.Sums.{reading_of}
use Rattle.plain_store.proofs.record.readings_of.Given as goal

abbrev pub invariant-loop-id : goal.invariant-loop-id
invariant-loop-id l = l.shown.items ≡ map (reading_of l.words) (take l.id-index l.ids)
