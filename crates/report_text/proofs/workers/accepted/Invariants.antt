use Rattle.std.proofs.Common.{◌≡◌, ◌≤◌, take, count_by}
use Rattle.flush_view.specs.Output.{took_effect}
use Rattle.report_text.proofs.workers.accepted.Given as goal

abbrev pub invariant-loop-verdict : goal.invariant-loop-verdict
invariant-loop-verdict l = record {
  count : l.count ≡ count_by took_effect (take l.verdict-index l.verdicts);
  fits : l.count ≤ l.verdict-index;
}
