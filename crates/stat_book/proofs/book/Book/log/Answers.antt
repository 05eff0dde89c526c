use Rattle.std.proofs.Common.{subst}
use Rattle.stat_defs.specs.Books.{BookHistory}
use Rattle.book_state.specs.Safe.{SymbolsSafe}
use Rattle.book_state.proofs.Safety.{legal_is_safe}
use Rattle.stat_book.specs.Calls.{rules_of}
use Rattle.stat_book.specs.BookKept.{shown}
use Rattle.stat_book.proofs.book.Book.log.Goals as goal

pub returns-clause-safe : goal.returns-clause-safe
returns-clause-safe c =
    let book = shown c.self.inside in
    subst (λ (v : BookHistory). SymbolsSafe (rules_of v) v.workers v.log) c.self.view_is (legal_is_safe.symbols (rules_of book) book.config.scopes book.workers book.log c.self.invariant.book.legal)
