use Rattle.book_state.proofs.Growing.{replayed, legal_on}
use Rattle.book_state.proofs.laws.a_log_grows.Goals as goal

pub returns : goal.returns
returns c = record { replayed = replayed; legal = legal_on }
