use Rattle.std.proofs.Common.{subst, IfOk}
use Rattle.book_access.specs.declared.owned.OwnedBook.{OwnedBook}
use Rattle.book_access.specs.Making.{SweepsBook}
use Rattle.book_seat.proofs.Stepping.{sweeps_book}
use Rattle.book_seat.proofs.owned.BookSeat+OwnedBook.sweep.Goals as goal

pub returns-clause-swept : goal.returns-clause-swept
returns-clause-swept c =
    let t = c.sweep-swept in let new = t.new.self in
    subst (λ (o : OwnedBook). IfOk t.result (λ swept. SweepsBook swept 0 o.book new)) c.self.view_is
    (sweeps_book t.result 0 c.self.inside.access.book new t.ensures.step t.ensures.list t.ensures.gone)
