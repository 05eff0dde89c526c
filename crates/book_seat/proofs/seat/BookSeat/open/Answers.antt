use Rattle.std.proofs.Common.{ℕ, List, ap, sym, subst, IfOk, OnErr}
use Rattle.stat_defs.specs.declared.history.Call.TheVariants as call
use Rattle.book_seat.specs.Deciding.{CallsBook, CallsInVain}
use Rattle.seat_history.specs.declared.known.LogKnown.{LogKnown}
use Rattle.book_access.specs.Calling.{WorksUnder}
use Rattle.book_seat.proofs.Sitting.{sits_of}
use Rattle.book_seat.proofs.Results.{err_so}
use Rattle.book_seat.proofs.Stepping as s
use Rattle.book_seat.proofs.seat.BookSeat.open.Goals as goal

pub returns-in_err-label-clause-err : goal.returns-in_err-label-clause-err
returns-in_err-label-clause-err g c =
    let K = g.A.KnowsLog.known in
    err_so c.from_residual.result (CallsInVain (K c.args.self.now) (K c.args.self.now)) c.waits_in_vain.ensures

pub returns-in_err-prefix-clause-err : goal.returns-in_err-prefix-clause-err
returns-in_err-prefix-clause-err g c =
    let K = g.A.KnowsLog.known in
    err_so c.from_residual-in_err-prefix.result (CallsInVain (K c.args.self.now) (K c.args.self.now)) c.waits_in_vain.ensures

pub invariant_of-self : goal.invariant_of-self
invariant_of-self g c =
    let K = g.A.KnowsLog.known in let old = c.self.inside in let es = old.cache.entries in let p = K old.access in let is = ap K c.self.view_is in
    let sits = sits_of p es old.tag c.self.invariant (subst WorksUnder (sym is) c.requires.works) in
    s.open_kept p es old.tag sits (K c.open.new.self) c.open.result c.in_ok-label.label c.in_ok-prefix.prefix c.open.ensures.step c.open.ensures.err

pub returns-clause-step : goal.returns-clause-step
returns-clause-step g c =
    let K = g.A.KnowsLog.known in let old = c.self.inside in let es = old.cache.entries in let p = K old.access in let is = ap K c.self.view_is in
    let sits = sits_of p es old.tag c.self.invariant (subst WorksUnder (sym is) c.requires.works) in
    let q = K c.open.new.self in
    subst (λ (x : LogKnown). IfOk c.open.result (λ v. CallsBook 1 (call.OpenScope c.args.label.now c.args.prefix.now) v x q)) is
    (subst (λ (l : List ℕ). IfOk c.open.result (λ v. CallsBook 1 (call.OpenScope l c.args.prefix.now) v p q)) c.in_ok-label.ensures
    (subst (λ (l : List ℕ). IfOk c.open.result (λ v. CallsBook 1 (call.OpenScope c.in_ok-label.label l) v p q)) c.in_ok-prefix.ensures
    (s.open_told p es old.tag sits q c.open.result c.in_ok-label.label c.in_ok-prefix.prefix c.open.ensures.step)))

pub returns-clause-err : goal.returns-clause-err
returns-clause-err g c =
    let K = g.A.KnowsLog.known in let old = c.self.inside in let es = old.cache.entries in let p = K old.access in let is = ap K c.self.view_is in
    let sits = sits_of p es old.tag c.self.invariant (subst WorksUnder (sym is) c.requires.works) in
    let q = K c.open.new.self in
    subst (λ (x : LogKnown). OnErr c.open.result (CallsInVain x q)) is (s.vain_told p es old.tag sits q c.open.result c.open.ensures.err)
