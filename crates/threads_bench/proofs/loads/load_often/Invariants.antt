use Rattle.book_lock.specs.Seats.{lock_id, AtRest}
use Rattle.threads_bench.proofs.loads.load_often.Given as goal

abbrev pub invariant-loop : goal.invariant-loop
invariant-loop l = AtRest (lock_id l.fn.lock) l.seat
