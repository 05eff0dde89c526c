use Rattle.std.proofs.Common.{sym, subst, ◌*◌}
use Rattle.stat_defs.specs.Books.{BookHistory}
use Rattle.book_state.specs.declared.limits.TheConstants.{MAX_METRICS}
use Rattle.book_lock.specs.Seats.{AreNew, lock_id}
use Rattle.locked_book.specs.declared.shared.SharedBook.{SharedBook}
use Rattle.locked_book.proofs.Numbered.{new_numbered}
use Rattle.locked_book.proofs.shared.SharedBook.new.Goals as goal

pub returns-clause-seats : goal.returns-clause-seats
returns-clause-seats c =
    let e = c.in_ok-lock.ensures in let book : SharedBook = record { lock = c.in_ok-lock.lock } in
    new_numbered book c.number_seats.new.numbered.items c.in_ok-lock.bare.items (2 * MAX_METRICS) c.args.seats c.number_seats.ensures
    (subst (λ (h : BookHistory). AreNew (lock_id book.lock) h (2 * MAX_METRICS) c.args.seats c.in_ok-lock.bare.items) (sym e.lock.0) e.seats)
