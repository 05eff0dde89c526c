use Rattle.same_output.proofs.Written.{outputs_same, runs_same}
use Rattle.same_output.proofs.OfContents.{of_contents}
use Rattle.same_output.proofs.laws.same_output.Goals as goal

pub returns : goal.returns
returns c = record { replayed = outputs_same; run_again = runs_same; of_contents = of_contents }
