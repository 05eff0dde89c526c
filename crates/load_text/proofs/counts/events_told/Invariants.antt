use Rattle.std.proofs.Common.{◌≡◌, ◌≤◌, ◌*◌, ◌-◌, ◌^◌, take, sum_by, length}
use Rattle.load_text.proofs.counts.events_told.Given as goal

abbrev pub invariant-loop-of_script : goal.invariant-loop-of_script
invariant-loop-of_script l = record {
  sum : l.count ≡ sum_by length (take l.of_script-index l.verdicts);
  fits : l.count ≤ l.of_script-index * (2 ^ 64 - 1);
}
