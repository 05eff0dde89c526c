use Rattle.std.proofs.Common.{◌≡◌, []}
use Rattle.book_access.specs.Calling.{WorkingUnder}
use Rattle.locked_book.specs.Sharing.{known_by, IsSeatOf}
use Rattle.thread_tests.proofs.locked_books.work.Given as goal

abbrev pub invariant-loop : goal.invariant-loop
invariant-loop g l = IsSeatOf l.fn.book l.seat × WorkingUnder (known_by l.seat) (λ row. row.held ≡ [])
