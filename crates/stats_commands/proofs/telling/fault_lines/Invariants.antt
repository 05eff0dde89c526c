use Rattle.std.proofs.Common.{◌≡◌, ◌+◌, ◌++◌, drop, map}
use Rattle.stats_commands.specs.FaultLines.{fault_lines}
use Rattle.stats_commands.proofs.telling.fault_lines.Given as goal

abbrev pub invariant-loop-end : goal.invariant-loop-end
invariant-loop-end l = record {
  text : l.text.items ++ fault_lines l.number (map (λ end. end.end) (drop l.end-index l.ends)) ≡ fault_lines 1 (map (λ end. end.end) l.ends);
  numbered : l.number ≡ l.end-index + 1;
}
