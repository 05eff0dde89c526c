use Rattle.book_lock.specs.Seats.{lock_id}
use Rattle.names_bench.specs.Filled.{IsSeat}
use Rattle.names_bench.proofs.filling.fill_often.Given as goal

abbrev pub invariant-loop : goal.invariant-loop
invariant-loop g l = IsSeat (lock_id l.fn.lock) l.seat
