use Rattle.book_state.proofs.Growing.{own_more, own_one}
use Rattle.book_state.proofs.laws.own_entries_grow.Goals as goal

pub returns : goal.returns
returns c = record { more = own_more; one = own_one }
