use Rattle.std.proofs.Common.{◌≡◌}
use Rattle.book_tests.proofs.books.find_many.Given as goal

abbrev pub invariant-loop-i : goal.invariant-loop-i
invariant-loop-i g l = l.book.workers ≡ 2
