use Rattle.std.proofs.Common.{ap}
use Rattle.ledger.proofs.Contents.{one_direct}
use Rattle.ledger.proofs.OneFlush.{one_report}
use Rattle.flush_view.specs.Output.{output}
use Rattle.flush_view.proofs.laws.one_output.Goals as goal

pub returns : goal.returns
returns c = record {
  of_events = λ text rules symbols contents others events plan one other a b.
      ap (λ report. output text rules symbols report) (one_report plan events contents others one other a b);
  of_contents = λ text rules symbols config contents one other a na b nb.
      ap (λ report. output text rules symbols report) (one_direct config contents one other a na b nb);
}
