use Rattle.std.proofs.Common.{◌≡◌, ℕ}
use Rattle.book_lock.specs.History.{tried}
use Rattle.book_lock.specs.Seats.{AtRest, lock_id, seat_part}
use Rattle.book_lock.proofs.lock.BookLock.enter.Given as goal

abbrev pub invariant-loop : goal.invariant-loop
invariant-loop g l = AtRest (lock_id l.fn.self) l.seat × ((misses : ℕ) × (seat_part l.seat ≡ tried misses (seat_part l.fn.seat)))
