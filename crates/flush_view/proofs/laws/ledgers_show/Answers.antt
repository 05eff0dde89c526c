use Rattle.flush_view.proofs.Showable.{ledgers_show}
use Rattle.flush_view.proofs.laws.ledgers_show.Goals as goal

pub returns : goal.returns
returns c = ledgers_show
