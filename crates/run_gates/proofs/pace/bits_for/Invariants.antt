use Rattle.std.proofs.Common.{◌≡◌, ◌+◌}
use Rattle.run_gates.specs.Pacing.{IsShared}
use Rattle.run_gates.proofs.pace.bits_for.Given as goal

abbrev pub invariant-loop-next : goal.invariant-loop-next
invariant-loop-next l = record {
  last : l.bits + 1 ≡ l.next;
  shared : IsShared l.workers l.every l.bits;
}
