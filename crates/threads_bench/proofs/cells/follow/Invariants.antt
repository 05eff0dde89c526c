use Rattle.std.proofs.Common.{◌≡◌, ◌≤◌, length}
use Rattle.threads_bench.proofs.cells.follow.Given as goal

abbrev pub invariant-loop : goal.invariant-loop
invariant-loop l = (length l.cells.items ≡ 2) × (l.at ≤ 1)
