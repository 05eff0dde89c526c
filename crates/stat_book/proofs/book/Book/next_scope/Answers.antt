use Rattle.std.proofs.Common.{length, ap, arith}
use Rattle.book_state.specs.State.{State}
use Rattle.stat_book.specs.Calls.{rules_of}
use Rattle.stat_book.specs.BookKept.{shown}
use Rattle.stat_book.proofs.Openings.{scopes_fit}
use Rattle.stat_book.proofs.book.Book.next_scope.Goals as goal

pub overflow_cast-result : goal.overflow_cast-result
overflow_cast-result c =
    let book = shown c.self.inside in let kept = c.self.invariant.book in
    let few = scopes_fit (rules_of book) book.config.scopes book.workers book.log kept.legal kept.few_workers kept.few_openings in
    omega (arith, few, c.opened.ensures, ap (λ (s : State). length s.scopes) kept.replay)
