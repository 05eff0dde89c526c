use Rattle.std.proofs.Common.{◌≡◌, filter, take}
use Rattle.stat_book.specs.Calls.{state_of}
use Rattle.locked_book.specs.Lists.{is_of_kind}
use Rattle.locked_book.proofs.listing.of_kind.Given as goal

abbrev pub invariant-loop-id : goal.invariant-loop-id
invariant-loop-id l = l.those.items ≡ filter (is_of_kind l.kind (state_of l.book)) (take l.id-index l.ids)
