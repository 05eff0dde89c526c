use Rattle.std.proofs.Common.{◌∙◌, Result, Ok, Err, IsOk, OnOk, sym, true≢false}
use Rattle.indexmap.proofs.CallerLemmas.{insert_entry-new}
use Rattle.book_state.proofs.metrics.list_name.Goals as goal

of_ok : {A E : Type 0} {P : Type 0} (r : Result A E) → IsOk r → OnOk r P → P
of_ok (Ok a) ok h = h
of_ok (Err e) ok h = absurd (true≢false (sym ok))

pub returns : goal.returns
returns c =
    of_ok c.insert-listed.result (c.insert-listed.ensures.succeeds c.requires.room) c.insert-listed.ensures.entries
    ∙ insert_entry-new _ c.args.known.now c.args.name c.args.id c.requires.new
