use Rattle.std.proofs.Common.{ℕ, List, ap, sym, subst, IfOk, OnErr}
use Rattle.stat_defs.specs.declared.history.Call.TheVariants as call
use Rattle.book_seat.specs.Deciding.{CallsBook, CallsInVain}
use Rattle.seat_history.specs.declared.known.LogKnown.{LogKnown}
use Rattle.book_access.specs.Calling.{WorksUnder}
use Rattle.book_seat.proofs.Sitting.{sits_of}
use Rattle.book_seat.proofs.Results.{err_so}
use Rattle.book_seat.proofs.Stepping as s
use Rattle.book_seat.proofs.seat.BookSeat.release.Goals as goal

pub returns-in_err-label-clause-err : goal.returns-in_err-label-clause-err
returns-in_err-label-clause-err g c =
    let K = g.A.KnowsLog.known in
    err_so c.from_residual.result (CallsInVain (K c.args.self.now) (K c.args.self.now)) c.waits_in_vain.ensures

pub invariant_of-self : goal.invariant_of-self
invariant_of-self g c =
    let K = g.A.KnowsLog.known in let old = c.self.inside in let es = old.cache.entries in let p = K old.access in let is = ap K c.self.view_is in
    let sits = sits_of p es old.tag c.self.invariant (subst WorksUnder (sym is) c.requires.works) in
    s.release_kept p es old.tag sits (K c.release.new.self) c.release.result c.in_ok-label.label c.release.ensures.step c.release.ensures.err

pub returns-clause-step : goal.returns-clause-step
returns-clause-step g c =
    let K = g.A.KnowsLog.known in let old = c.self.inside in let es = old.cache.entries in let p = K old.access in let is = ap K c.self.view_is in
    let sits = sits_of p es old.tag c.self.invariant (subst WorksUnder (sym is) c.requires.works) in
    let q = K c.release.new.self in
    subst (λ (x : LogKnown). IfOk c.release.result (λ v. CallsBook 0 (call.Release c.args.label.now) v x q)) is
    (subst (λ (l : List ℕ). IfOk c.release.result (λ v. CallsBook 0 (call.Release l) v p q)) c.in_ok-label.ensures
    (s.release_told p es old.tag sits q c.release.result c.in_ok-label.label c.release.ensures.step))

pub returns-clause-err : goal.returns-clause-err
returns-clause-err g c =
    let K = g.A.KnowsLog.known in let old = c.self.inside in let es = old.cache.entries in let p = K old.access in let is = ap K c.self.view_is in
    let sits = sits_of p es old.tag c.self.invariant (subst WorksUnder (sym is) c.requires.works) in
    let q = K c.release.new.self in
    subst (λ (x : LogKnown). OnErr c.release.result (CallsInVain x q)) is (s.vain_told p es old.tag sits q c.release.result c.release.ensures.err)
