use Rattle.book_state.proofs.Growing.{left_seats, left_held_all, none_own}
use Rattle.book_state.proofs.laws.others_leave_a_seat.Goals as goal

pub returns : goal.returns
returns c = record { seats = left_seats; held = left_held_all; entries = none_own }
