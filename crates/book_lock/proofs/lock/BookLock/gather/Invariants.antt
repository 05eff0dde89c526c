use Rattle.std.proofs.Common.{◌≡◌, ◌++◌, [], map, All}
use Rattle.book_lock.specs.Seats.{AtRest, lock_id, seat_part}
use Rattle.book_lock.proofs.lock.BookLock.gather.Given as goal

abbrev pub invariant-loop-seat : goal.invariant-loop-seat
invariant-loop-seat g l =
    (l.all.table_id ≡ lock_id l.self) × (l.all.me.1 ≡ []) × (map seat_part l.fn.seats.items ≡ map seat_part l.seats.items ++ l.all.me.0.parts)
    × All (AtRest (lock_id l.self)) l.seats.items

abbrev pub decreases-loop-seat : goal.decreases-loop-seat
decreases-loop-seat g l = goal.left-loop-seat g l
