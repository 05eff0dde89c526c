use Rattle.book_state.proofs.Staying.{metrics_stay}
use Rattle.book_state.proofs.laws.metrics_stay.Goals as goal

pub returns : goal.returns
returns c = metrics_stay
