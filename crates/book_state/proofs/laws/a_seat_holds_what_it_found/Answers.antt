use Rattle.book_state.proofs.OwnCalls.{held_found, held_passed, held_acked, held_ended}
use Rattle.book_state.proofs.laws.a_seat_holds_what_it_found.Goals as goal

pub returns : goal.returns
returns c = record { found = held_found; passed = held_passed; acked = held_acked; ended = held_ended }
