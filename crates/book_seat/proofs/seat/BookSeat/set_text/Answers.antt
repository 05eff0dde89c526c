use Rattle.std.proofs.Common.{ℕ, List, ap, sym, subst, OnOk, OnErr}
use Rattle.stat_defs.specs.declared.history.Verdict.TheVariants as verdict
use Rattle.book_seat.specs.Deciding.{SetsText, CallsInVain}
use Rattle.seat_history.specs.declared.known.LogKnown.{LogKnown}
use Rattle.book_access.specs.Calling.{WorksUnder}
use Rattle.book_seat.proofs.Sitting.{sits_of}
use Rattle.book_seat.proofs.Results.{err_so}
use Rattle.book_seat.proofs.Stepping as s
use Rattle.book_seat.proofs.seat.BookSeat.set_text.Goals as goal

pub returns-in_err-text-clause-err : goal.returns-in_err-text-clause-err
returns-in_err-text-clause-err g c =
    let K = g.A.KnowsLog.known in
    err_so c.from_residual.result (CallsInVain (K c.args.self.now) (K c.args.self.now)) c.waits_in_vain.ensures

pub invariant_of-self : goal.invariant_of-self
invariant_of-self g c =
    let K = g.A.KnowsLog.known in let old = c.self.inside in let es = old.cache.entries in let p = K old.access in let is = ap K c.self.view_is in
    let sits = sits_of p es old.tag c.self.invariant (subst WorksUnder (sym is) c.requires.works) in
    s.text_kept p es old.tag sits (K c.set_text.new.self) c.set_text.result c.args.id c.in_ok-text.text c.set_text.ensures.step c.set_text.ensures.err

pub returns-clause-sets : goal.returns-clause-sets
returns-clause-sets g c =
    let K = g.A.KnowsLog.known in let old = c.self.inside in let es = old.cache.entries in let p = K old.access in let is = ap K c.self.view_is in
    let sits = sits_of p es old.tag c.self.invariant (subst WorksUnder (sym is) c.requires.works) in
    let q = K c.set_text.new.self in
    subst (λ (x : LogKnown). OnOk c.set_text.result (SetsText c.args.text.now (verdict.Accepted c.args.id) x q)) is
    (subst (λ (l : List ℕ). OnOk c.set_text.result (SetsText l (verdict.Accepted c.args.id) p q)) c.in_ok-text.ensures
    (s.text_told p es old.tag sits q c.set_text.result c.args.id c.in_ok-text.text c.set_text.ensures.step))

pub returns-clause-err : goal.returns-clause-err
returns-clause-err g c =
    let K = g.A.KnowsLog.known in let old = c.self.inside in let es = old.cache.entries in let p = K old.access in let is = ap K c.self.view_is in
    let sits = sits_of p es old.tag c.self.invariant (subst WorksUnder (sym is) c.requires.works) in
    let q = K c.set_text.new.self in
    subst (λ (x : LogKnown). OnErr c.set_text.result (CallsInVain x q)) is (s.vain_told p es old.tag sits q c.set_text.result c.set_text.ensures.err)
