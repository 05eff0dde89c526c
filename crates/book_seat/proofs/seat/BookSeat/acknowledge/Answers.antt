use Rattle.std.proofs.Common.{ap, sym, subst, ◌∙◌}
use Rattle.stat_defs.specs.Keys.{held_under}
use Rattle.thread_cache.specs.Held.{held_without}
use Rattle.book_seat.specs.Growing.{StaysAtWork}
use Rattle.book_seat.specs.Deciding.{CallsInVain}
use Rattle.book_seat.specs.Polling.{Acknowledges}
use Rattle.book_seat.proofs.Sitting.{kept_of}
use Rattle.seat_history.specs.declared.known.LogKnown.{LogKnown}
use Rattle.book_access.specs.Calling.{WorksUnder}
use Rattle.book_seat.proofs.Sitting.{sits_of}
use Rattle.book_seat.proofs.Results.{err_so}
use Rattle.book_seat.proofs.Stepping as s
use Rattle.book_seat.proofs.seat.BookSeat.acknowledge.Goals as goal

pub invariant_of-self : goal.invariant_of-self
invariant_of-self g c =
    let K = g.A.KnowsLog.known in let old = c.self.inside in let es = old.cache.entries in let p = K old.access in let is = ap K c.self.view_is in
    let sits = sits_of p es old.tag c.self.invariant (subst WorksUnder (sym is) c.requires.works) in
    let q = K c.ack.new.self in kept_of q es old.tag (s.vain_sits p es old.tag sits q c.in_err-acked.ensures.err)

pub returns-in_err-acked-clause-err : goal.returns-in_err-acked-clause-err
returns-in_err-acked-clause-err g c =
    let K = g.A.KnowsLog.known in let old = c.self.inside in let es = old.cache.entries in let p = K old.access in let is = ap K c.self.view_is in
    let sits = sits_of p es old.tag c.self.invariant (subst WorksUnder (sym is) c.requires.works) in
    let q = K c.ack.new.self in
    err_so c.from_residual.result (CallsInVain (K c.args.self.now) q) (subst (λ (x : LogKnown). CallsInVain x q) is (s.vain_call p es old.tag sits q c.in_err-acked.ensures.err))

pub invariant_of-self-2 : goal.invariant_of-self-2
invariant_of-self-2 g c =
    let K = g.A.KnowsLog.known in let old = c.self.inside in let es = old.cache.entries in let p = K old.access in let is = ap K c.self.view_is in
    let sits = sits_of p es old.tag c.self.invariant (subst WorksUnder (sym is) c.requires.works) in
    s.ack_kept p es old.tag sits (K c.ack.new.self) c.drop_released.new.self.entries c.in_ok-acked.acked c.in_ok-acked.ensures.step
    (λ key. c.drop_released.ensures.held key ∙ ap (λ scopes. held_without scopes (held_under key es)) c.items.ensures)

pub returns-clause-step : goal.returns-clause-step
returns-clause-step g c =
    let K = g.A.KnowsLog.known in let old = c.self.inside in let es = old.cache.entries in let p = K old.access in let is = ap K c.self.view_is in
    let sits = sits_of p es old.tag c.self.invariant (subst WorksUnder (sym is) c.requires.works) in
    let q = K c.ack.new.self in
    subst (λ (x : LogKnown). Acknowledges x q × StaysAtWork 0 x q) is
    (s.ack_told p es old.tag sits q c.drop_released.new.self.entries c.in_ok-acked.acked c.in_ok-acked.ensures.step
    (λ key. c.drop_released.ensures.held key ∙ ap (λ scopes. held_without scopes (held_under key es)) c.items.ensures))
