use Rattle.book_state.proofs.Safety.{legal_is_safe}
use Rattle.book_state.proofs.laws.a_legal_log_is_safe.Goals as goal

pub returns : goal.returns
returns c = legal_is_safe
