use Rattle.std.proofs.Common.{◌≡◌, ◌≤◌, ◌*◌, ◌-◌, ◌^◌, take, sum_by}
use Rattle.std.specs.Prelude.{count_by}
use Rattle.flush_view.specs.Output.{took_effect}
use Rattle.load_text.proofs.counts.accepted.Given as goal

abbrev pub invariant-loop-of_script : goal.invariant-loop-of_script
invariant-loop-of_script l = record {
  sum : l.count ≡ sum_by (λ of_script. count_by took_effect of_script) (take l.of_script-index l.verdicts);
  fits : l.count ≤ l.of_script-index * (2 ^ 64 - 1);
}
