-- The book is lent, and put back when the loan ends.
use Rattle.std.specs.Borrow.{Lends, MutBor, Fml}
use Rattle.std.specs.Box.{with_value}
use Rattle.book_lock.specs.contracts.held.Held.{the_row}
use denote.RattleType.{RattleType}

abbrev pub LendsBook : (B : RattleType) → MutBor (the_row B).Denot → MutBor B.Denot → Fml
LendsBook B held book = Lends (the_row B) B held book (λ b. record held.now { book = with_value held.now.book b })
