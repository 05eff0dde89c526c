use Rattle.std.proofs.Common.{◌≡◌}
use Rattle.book_tests.proofs.books.play.Given as goal

abbrev pub invariant-loop-line : goal.invariant-loop-line
invariant-loop-line g l = l.book.workers ≡ 2
