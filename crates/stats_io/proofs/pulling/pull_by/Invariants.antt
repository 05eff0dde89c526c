use Rattle.std.proofs.Common.{◌≡◌, ◌≤◌, ◌-◌, ◌+◌, max, length}
use Rattle.stats_io.specs.States.{IsLater}
use Rattle.stats_io.specs.PullUpTo.{Grows}
use Rattle.stats_io.proofs.pulling.pull_by.Given as goal

abbrev pub invariant-loop-bytes : goal.invariant-loop-bytes
invariant-loop-bytes g l = record {
  got : Grows (g.S.Source.state l.fn.source) (g.S.Source.state l.source) l.fn.bytes.items l.bytes.items;
  later : IsLater (g.S.Source.state l.fn.source) (g.S.Source.state l.source);
  room : length l.chunk ≡ length l.fn.chunk;
  bound : length l.bytes.items ≤ max (length l.fn.bytes.items) (l.limit + length l.fn.chunk);
}

abbrev pub decreases-loop-bytes : goal.decreases-loop-bytes
decreases-loop-bytes g l = l.limit + 1 - length l.bytes.items
