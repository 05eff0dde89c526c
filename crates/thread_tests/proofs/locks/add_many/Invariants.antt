use Rattle.std.proofs.Common.{◌≡◌}
use Rattle.book_lock.specs.Seats.{lock_id, seat_number, AtRest}
use Rattle.thread_tests.proofs.locks.add_many.Given as goal

abbrev pub invariant-loop-count : goal.invariant-loop-count
invariant-loop-count g l = AtRest (lock_id l.fn.lock) l.seat × (seat_number l.seat ≡ l.fn.number)
