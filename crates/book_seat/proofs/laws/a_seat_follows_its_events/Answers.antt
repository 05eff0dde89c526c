use Rattle.book_seat.proofs.Followed.{seat_follows}
use Rattle.book_seat.proofs.laws.a_seat_follows_its_events.Goals as goal

pub returns : goal.returns
returns c = seat_follows
