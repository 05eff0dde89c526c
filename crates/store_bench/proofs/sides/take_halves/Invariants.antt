use Rattle.std.proofs.Common.{IsSome}
use Rattle.flusher.specs.Flusher.{IsFlusherOf}
use Rattle.store_bench.proofs.sides.take_halves.Given as goal

abbrev pub invariant-loop : goal.invariant-loop
invariant-loop l = IsFlusherOf l.store l.flusher × IsSome l.flusher.round
