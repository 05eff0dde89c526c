use Rattle.std.proofs.Common.{◌≤◌, vec_capacity}
use Rattle.load_report.proofs.ScriptSoFar.{SoFar}
use Rattle.load_report.proofs.applying.apply_script.Given as goal

abbrev pub invariant-loop : goal.invariant-loop
invariant-loop l = record {
  so : SoFar l.fn.script l.counter l.state l.fn.store l.store l.verdicts.items;
  room : l.fn.events ≤ vec_capacity l.verdicts;
}
