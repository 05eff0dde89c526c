use Rattle.book_state.proofs.Growing.{own_ends}
use Rattle.book_state.proofs.laws.a_seat_stands_at_its_last_entry.Goals as goal

pub returns : goal.returns
returns c = record {
  seats = λ rules workers seat log. (own_ends rules workers seat log).0;
  releases = λ rules workers seat log. (own_ends rules workers seat log).1;
}
