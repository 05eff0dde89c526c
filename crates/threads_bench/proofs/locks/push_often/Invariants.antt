use Rattle.std.proofs.Common.{◌≡◌}
use Rattle.book_lock.specs.Seats.{lock_id, seat_number, AtRest}
use Rattle.threads_bench.proofs.locks.push_often.Given as goal

abbrev pub invariant-loop : goal.invariant-loop
invariant-loop g l = AtRest (lock_id l.fn.lock) l.seat × (seat_number l.seat ≡ l.fn.number)
