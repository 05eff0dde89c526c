use Rattle.std.proofs.Common.{◌≤◌, ◌-◌, length}
use Rattle.event_script.specs.Passing.{PassesOver}
use Rattle.event_script.proofs.cutting.pass_over.Given as goal

abbrev pub invariant-loop-stop : goal.invariant-loop-stop
invariant-loop-stop l = record {
  within : l.place.at ≤ length l.bytes;
  passes : PassesOver l.stop l.bytes l.fn.place l.place;
}

abbrev pub decreases-loop-stop : goal.decreases-loop-stop
decreases-loop-stop l = length l.bytes - l.place.at
