use Rattle.std.proofs.Common.{ap}
use Rattle.thread_cache.specs.Held.{CacheState}
use Rattle.book_seat.proofs.Sitting.{kept_of}
use Rattle.book_seat.proofs.Followed.{new_sits}
use Rattle.book_seat.proofs.seat.BookSeat.new.Goals as goal

pub invariant_of-result : goal.invariant_of-result
invariant_of-result g c =
    let p = g.A.KnowsLog.known c.args.access in let es = c.with_key.result.entries in
    kept_of p es 0 (new_sits p es c.requires (ap (λ (s : CacheState). s.entries) c.with_key.ensures))
