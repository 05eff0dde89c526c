use Rattle.std.proofs.Common.{map, refl, ◌∙◌}
use Rattle.std.proofs.lemmas.Result.{on_ok_weaker, on_err_weaker}
use Rattle.book_state.specs.Scopes.{bearing}
use Rattle.book_state.specs.ScopesKept.{row_shown}
use Rattle.book_state.proofs.Lists.{map-set_read, change_same, get_map, get_read}
use Rattle.book_state.proofs.Rows.{row_within}
use Rattle.book_state.proofs.scopes.bear_at.Goals as goal

pub returns-clause-bears : goal.returns-clause-bears
returns-clause-bears c =
    let rows = c.args.rows.now.items in let at = c.args.at in
    on_ok_weaker c.bear_in.result (λ bears. map-set_read row_shown (bearing c.args.metric) rows at c.index_mut.result.now _ (row_within rows at c.requires) c.index_mut.ensures.value bears) c.bear_in.ensures.bears

pub returns-clause-new : goal.returns-clause-new
returns-clause-new c =
    let rows = c.args.rows.now.items in let at = c.args.at in
    rw (get_map row_shown rows at, get_read rows at c.index_mut.result.now (row_within rows at c.requires) c.index_mut.ensures.value) c.bear_in.ensures.new

pub returns-clause-err : goal.returns-clause-err
returns-clause-err c =
    let rows = c.args.rows.now.items in let at = c.args.at in
    on_err_weaker c.bear_in.result
    (λ same. map-set_read row_shown (λ x. x) rows at c.index_mut.result.now _ (row_within rows at c.requires) c.index_mut.ensures.value same ∙ change_same (λ x. x) (λ x. refl) at (map row_shown rows))
    c.bear_in.ensures.err
