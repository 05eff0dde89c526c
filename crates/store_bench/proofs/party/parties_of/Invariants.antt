use Rattle.std.proofs.Common.{All}
use Rattle.std.specs.Vec.Iter.{into_iter_items}
use Rattle.store_bench.specs.Held.{IsAtHand}
use Rattle.store_bench.proofs.party.parties_of.Given as goal

abbrev pub invariant-loop-recorder : goal.invariant-loop-recorder
invariant-loop-recorder l = All (IsAtHand l.store 0) (into_iter_items l.recorder-iterator)
