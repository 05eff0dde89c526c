use Rattle.std.proofs.Common.{◌≡◌, filter, take}
use Rattle.stat_book.specs.Calls.{state_of}
use Rattle.plain_store.specs.Sums.{is_of_kind}
use Rattle.plain_store.proofs.lists.of_kind.Given as goal

abbrev pub invariant-loop-id : goal.invariant-loop-id
invariant-loop-id l = l.those.items ≡ filter (is_of_kind l.kind (state_of l.worker.book)) (take l.id-index l.ids)
