use Rattle.std.proofs.Common.{nat_eq, ap, sym, ◌∙◌, get_or, take}
use Rattle.std.proofs.lemmas.List.{take_more}
use Rattle.indexmap.specs.IndexSet.{insert_key}
use Rattle.book_state.proofs.Apart.{new_at, new_last}
use Rattle.book_state.proofs.numbers.index_with.Goals as goal

pub loop-number-preserved : goal.loop-number-preserved
loop-number-preserved c =
    let numbers = c.args.numbers.now in
    let at = c.loop-number.number-index in
    let number = get_or numbers at 0 in
    c.in_ok-insert.ensures.keys
    ∙ (ap (λ keys. insert_key nat_eq keys number) c.loop-number.invariant
    ∙ (new_last (take at numbers) number (new_at numbers at c.loop-number-test.true c.requires.apart)
    ∙ sym (take_more numbers at 0 c.loop-number-test.true)))
