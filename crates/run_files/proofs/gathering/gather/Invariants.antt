use Rattle.std.proofs.Common.{length}
use Rattle.std.specs.Vec.Iter.{into_iter_items}
use Rattle.run_files.specs.Gathering.{AreGathered, HasRoom}
use Rattle.run_files.proofs.gathering.gather.Given as goal

abbrev pub invariant-loop-outcome : goal.invariant-loop-outcome
invariant-loop-outcome l = record {
  are : AreGathered l.yielded l.all;
  room : HasRoom (length (into_iter_items l.outcome-iterator)) l.all;
}
