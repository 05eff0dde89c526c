use Rattle.book_state.proofs.SeatStays.{seat_works, seat_tag, seat_acked, releases_stay}
use Rattle.book_state.proofs.laws.a_seat_stays.Goals as goal

pub returns : goal.returns
returns c = record { works = seat_works; tags = seat_tag; acked = seat_acked; releases = releases_stay }
