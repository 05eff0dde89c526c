use Rattle.flush_view.proofs.Made.{made_in}
use Rattle.flush_view.proofs.laws.numbers_made.Goals as goal

pub returns : goal.returns
returns c = λ rules scopes workers log id row legal there. made_in rules scopes workers log id row legal there
