use Rattle.std.proofs.Common.{◌≡◌, ◌+◌, ◌≤◌, ℕ, false, sym, subst, arith, lit≤}
use Rattle.book_tests.specs.Free.{has_from}
use Rattle.book_tests.proofs.Ranks.{may_find_next, found_next}
use Rattle.book_tests.proofs.books.find_next.Goals as goal

pub find-requires-clause-works : goal.find-requires-clause-works
find-requires-clause-works g c =
    may_find_next c.args.book.now 1 c.args.least c.args.key.now (lit≤ tt) (omega (arith, c.requires.workers))
    c.requires.free
    (subst (λ (n : ℕ). c.args.least ≤ n) c.higher_rank-rank.ensures.rank c.higher_rank-rank.ensures.higher)

pub returns-clause-free : goal.returns-clause-free
returns-clause-free g c =
    subst (λ (n : ℕ). has_from 1 (n + 1) c.find.new.self.log ≡ false) (sym c.higher_rank-rank.ensures.rank)
    (found_next c.args.book.now c.find.new.self c.args.least c.args.key.now c.in_ok-_answer._answer.verdict
    c.in_ok-_answer.ensures.step c.requires.free
    (subst (λ (n : ℕ). c.args.least ≤ n) c.higher_rank-rank.ensures.rank c.higher_rank-rank.ensures.higher))
