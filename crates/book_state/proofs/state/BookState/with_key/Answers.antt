use Rattle.book_state.proofs.Naming.{empty_stored}
use Rattle.book_state.proofs.state.BookState.with_key.Goals as goal

pub invariant_of-result : goal.invariant_of-result
invariant_of-result c =
    rw (c.new.ensures, c.new-2.ensures, c.new-3.ensures.items, c.new-4.ensures)
    (empty_stored c.args.workers c.in_ok-seats.seats.items (c.in_ok-seats.ensures.items_if_clones_equal (λ y same. same)))
