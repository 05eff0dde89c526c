use Rattle.std.proofs.Common.{ap, sym, subst}
use Rattle.seat_history.specs.declared.known.LogKnown.{LogKnown}
use Rattle.book_access.specs.Calling.{WorksUnder}
use Rattle.book_seat.specs.Deciding.{CallsInVain}
use Rattle.book_seat.proofs.Sitting.{sits_of}
use Rattle.book_seat.proofs.Stepping as s
use Rattle.book_seat.proofs.seat.BookSeat.waits_in_vain.Goals as goal

pub returns : goal.returns
returns g c =
    let K = g.A.KnowsLog.known in let old = c.self.inside in let es = old.cache.entries in let p = K old.access in let is = ap K c.self.view_is in
    let sits = sits_of p es old.tag c.self.invariant (subst WorksUnder (sym is) c.requires) in
    subst (λ (x : LogKnown). CallsInVain x x) is (s.vain_same p es old.tag sits)
