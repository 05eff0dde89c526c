use Rattle.std.proofs.Common.{◌≡◌, length, ◌-◌, ◌≤◌, take}
use Rattle.std.specs.Io.KnownBytes.{Appends}
use Rattle.stats_io.proofs.sink.push_all.Given as goal

abbrev pub invariant-loop-at : goal.invariant-loop-at
invariant-loop-at g l = record {
  within : l.at ≤ length l.bytes;
  so_far : Appends (g.O.Sink.state l.fn.out).written (g.O.Sink.state l.out).written (take l.at l.bytes);
  kept : (g.O.Sink.state l.out).faults ≡ (g.O.Sink.state l.fn.out).faults;
}

abbrev pub decreases-loop-at : goal.decreases-loop-at
decreases-loop-at g l = length l.bytes - l.at
