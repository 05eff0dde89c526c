use Rattle.std.proofs.Common.{true, false, ap, sym, subst}
use Rattle.book_seat.specs.Growing.{StaysAtWork}
use Rattle.book_seat.specs.Deciding.{CallsInVain}
use Rattle.book_seat.specs.Polling.{Acknowledges, Polls, PollsInVain}
use Rattle.seat_history.specs.declared.known.LogKnown.{LogKnown}
use Rattle.book_access.specs.Calling.{WorksUnder}
use Rattle.book_seat.proofs.Sitting.{sits_of}
use Rattle.book_seat.proofs.Results.{err_so}
use Rattle.book_seat.proofs.Stepping as s
use Rattle.book_seat.proofs.seat.BookSeat.poll.Goals as goal

pub returns-then-releases-self-clause-polls : goal.returns-then-releases-self-clause-polls
returns-then-releases-self-clause-polls g c =
    let K = g.A.KnowsLog.known in let old = c.self.inside in let es = old.cache.entries in let p = K old.access in let is = ap K c.self.view_is in
    let sits = sits_of p es old.tag c.self.invariant (subst WorksUnder (sym is) c.requires.works) in
    let r = c.releases-releases in let q = K r.new.self in
    subst (λ (x : LogKnown). Polls false x q) is (s.poll_none p es old.tag sits q r.result r.ensures.rises r.ensures.loads c.if-releases-self.true)

pub returns-in_err-acknowledge-clause-err : goal.returns-in_err-acknowledge-clause-err
returns-in_err-acknowledge-clause-err g c =
    let K = g.A.KnowsLog.known in let old = c.self.inside in let es = old.cache.entries in let p = K old.access in let is = ap K c.self.view_is in
    let sits = sits_of p es old.tag c.self.invariant (subst WorksUnder (sym is) c.requires.works) in
    let r = c.releases-releases in let q = K c.acknowledge.new.self in
    err_so c.from_residual.result (PollsInVain (K c.args.self.now) q)
    (subst (λ (x : LogKnown). PollsInVain x q) is (s.poll_vain p es old.tag sits q r.result r.ensures.rises (subst (λ (x : LogKnown). CallsInVain x q) r.ensures.loads c.in_err-acknowledge.ensures.err)))

pub returns-clause-polls : goal.returns-clause-polls
returns-clause-polls g c =
    let K = g.A.KnowsLog.known in let old = c.self.inside in let es = old.cache.entries in let p = K old.access in let is = ap K c.self.view_is in
    let sits = sits_of p es old.tag c.self.invariant (subst WorksUnder (sym is) c.requires.works) in
    let r = c.releases-releases in let q = K c.acknowledge.new.self in let step = c.in_ok-acknowledge.ensures.step in
    subst (λ (x : LogKnown). Polls true x q) is (s.poll_acks p es old.tag sits q r.result r.ensures.rises c.if-releases-self.false
    (subst (λ (x : LogKnown). Acknowledges x q) r.ensures.loads step.0) (subst (λ (x : LogKnown). StaysAtWork 0 x q) r.ensures.loads step.1))
