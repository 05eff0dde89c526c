use Rattle.std.proofs.Common.{◌≡◌, ◌≤◌, ◌++◌, length, map, vec_capacity, vec_len}
use Rattle.std.specs.Vec.Iter.{into_iter_items}
use Rattle.locked_book.specs.Sharing.{bare_seat}
use Rattle.locked_book.proofs.closing.bare_seats.Given as goal

abbrev pub invariant-loop-seat : goal.invariant-loop-seat
invariant-loop-seat l =
    (l.fn.seats.items ≡ l.yielded ++ into_iter_items l.seat-iterator)
    × (l.bare.items ≡ map bare_seat l.yielded)
    × (length l.fn.seats.items ≤ vec_capacity l.bare)
    × (vec_len l.bare ≡ length l.yielded)
