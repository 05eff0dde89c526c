use Rattle.std.proofs.Common.{refl, inl}
use Rattle.book_state.specs.Stored.{drawing}
use Rattle.book_state.proofs.Entering.{drawn}
use Rattle.stat_book.proofs.book.open_first.Goals as goal

pub apply-requires : goal.apply-requires
apply-requires c =
    rw (c.in_ok-clone.ensures.cases, c.in_ok-clone-2.ensures.cases)
    (record { rules = drawing c.args.state.now.tags; tags = drawn c.args.state.now.tags; allowed = (inl refl, c.requires.free, c.opened.ensures); lawful = c.requires.prefix })
