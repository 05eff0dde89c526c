use Rattle.book_state.proofs.Holding.{tag_past, held_once, dead_scopes}
use Rattle.book_state.proofs.laws.seats_of_a_legal_log.Goals as goal

pub returns : goal.returns
returns c = record {
  tags = λ rules scopes workers seat log legal. tag_past rules workers seat log legal.steps;
  once = λ rules scopes workers seat log legal. held_once rules workers seat log legal.steps;
  dead = λ rules scopes workers seat log legal. dead_scopes rules workers seat log legal.steps;
}
