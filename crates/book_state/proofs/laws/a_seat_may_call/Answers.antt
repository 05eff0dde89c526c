use Rattle.book_state.proofs.SeatStays.{may_find, may_ack, may_set, may_set_found}
use Rattle.book_state.proofs.laws.a_seat_may_call.Goals as goal

pub returns : goal.returns
returns c = record { find = may_find; ack = may_ack; text = may_set; text_found = may_set_found }
