use Rattle.event_script.proofs.Runs.{run_of}
use Rattle.event_script.proofs.laws.answers_are_a_run.Goals as goal

pub returns : goal.returns
returns g c = run_of g.S.Source.state
