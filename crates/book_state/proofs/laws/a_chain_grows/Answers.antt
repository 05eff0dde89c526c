use Rattle.book_state.proofs.Growing.{chain_none, chain_others, chain_event, chain_ended, chain_left}
use Rattle.book_state.proofs.laws.a_chain_grows.Goals as goal

pub returns : goal.returns
returns c = record { none = chain_none; others = chain_others; events = chain_event; ended = chain_ended; left = chain_left }
