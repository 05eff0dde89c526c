use Rattle.std.proofs.Common.{◌≡◌, drop}
use Rattle.flush_view.specs.Sums.{with_parts, HasRoomForAll}
use Rattle.flush_view.proofs.sums.add_parts.Given as goal

abbrev pub invariant-loop-part : goal.invariant-loop-part
invariant-loop-part l = record {
  room : HasRoomForAll l.slots (drop l.part-index l.parts);
  same : with_parts l.slots (drop l.part-index l.parts) ≡ with_parts l.fn.slots l.parts;
}
