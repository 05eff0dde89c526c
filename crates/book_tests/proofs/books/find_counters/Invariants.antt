use Rattle.std.proofs.Common.{◌≡◌, false}
use Rattle.book_tests.specs.Free.{has_from}
use Rattle.book_tests.proofs.books.find_counters.Given as goal

abbrev pub invariant-loop-i : goal.invariant-loop-i
invariant-loop-i g l = (l.book.workers ≡ 2) × (has_from 1 l.least l.book.log ≡ false)
