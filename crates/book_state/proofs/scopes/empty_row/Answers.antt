use Rattle.book_state.specs.Scopes.{emptied}
use Rattle.book_state.specs.ScopesKept.{row_shown}
use Rattle.book_state.proofs.Lists.{map-set_read, get_map, get_read}
use Rattle.book_state.proofs.Rows.{row_within}
use Rattle.book_state.proofs.scopes.empty_row.Goals as goal

pub returns-clause-emptied : goal.returns-clause-emptied
returns-clause-emptied c =
    let rows = c.args.rows.now.items in let at = c.args.at in
    map-set_read row_shown emptied rows at c.index_mut.result.now _ (row_within rows at c.requires) c.index_mut.ensures.value c.end_row.ensures.emptied

pub returns-clause-borne : goal.returns-clause-borne
returns-clause-borne c =
    let rows = c.args.rows.now.items in let at = c.args.at in
    rw (get_map row_shown rows at, get_read rows at c.index_mut.result.now (row_within rows at c.requires) c.index_mut.ensures.value) c.end_row.ensures.borne
