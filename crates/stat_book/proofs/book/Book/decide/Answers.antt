use Rattle.std.proofs.Common.{ap, ◌∙◌}
use Rattle.book_state.specs.State.{known}
use Rattle.stat_book.specs.Calls.{rules_of, state_of}
use Rattle.stat_book.proofs.Deciding.{decided}
use Rattle.stat_book.proofs.book.Book.decide.Goals as goal

pub returns : goal.returns
returns c =
    let book = c.args.self.now in
    c.first_case.ensures c.args.scope
    ∙ decided book c.args.key.now c.args.scope _ _ _ _ c.requires.scope (c.in_ok-admitted.ensures ∙ ap (rules_of book).admits c.requires.means.name)
    (c.known-known.ensures ∙ (λ i. known (state_of book) (c.requires.means.kind i) (c.requires.means.name i))) c.is_full-full.ensures c.is_over_limit-over.ensures
