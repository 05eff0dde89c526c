use Rattle.std.proofs.Common.{◌≡◌, ◌≤◌, ◌++◌, length, map, vec_capacity, vec_len}
use Rattle.std.specs.Vec.Iter.{into_iter_items}
use Rattle.locked_book.specs.Sharing.{bare_seat}
use Rattle.locked_book.proofs.making.number_seats.Given as goal

abbrev pub invariant-loop-seat : goal.invariant-loop-seat
invariant-loop-seat l =
    (l.fn.seats.items ≡ l.yielded ++ into_iter_items l.seat-iterator)
    × (map bare_seat l.numbered.items ≡ l.yielded)
    × (l.fn.count ≤ vec_capacity l.numbered)
    × (vec_len l.numbered ≡ length l.yielded)
