use Rattle.event_script.proofs.Moves.{moves_trans}
use Rattle.event_script.proofs.laws.moves_compose.Goals as goal

pub returns : goal.returns
returns g c = moves_trans g.S.Source.state
