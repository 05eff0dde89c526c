use Rattle.std.proofs.Common.{sym, subst}
use Rattle.stat_defs.specs.Borrowed.{event_of}
use Rattle.stat_defs.specs.declared.borrowed.EventRef.{EventRef}
use Rattle.stat_defs.specs.declared.history.Call.TheVariants as call
use Rattle.stat_defs.specs.declared.ids.Kind.TheVariants as kind
use Rattle.stat_defs.specs.declared.ids.Mode.TheVariants.{Uninit}
use Rattle.book_state.specs.Follows.{key_in}
use Rattle.book_seat.specs.Deciding.{CallsBook, JudgesKey, CallsInVain, DecidesEvent, CutsEvent}
use Rattle.book_seat.proofs.Decided.{inc_decides, gauge_decides, rec_decides, open_decides, release_decides, none_decided}
use Rattle.book_seat.proofs.Results.{if_ok, on_err}
use Rattle.book_seat.proofs.seat.BookSeat.decide.Goals as goal

pub returns-in-Inc-clause-decided : goal.returns-in-Inc-clause-decided
returns-in-Inc-clause-decided g c =
    let K = g.A.KnowsLog.known in let p = K c.args.self.now in let q = K c.judge.new.self in let w = c.in-Inc in
    if_ok c.judge.result (λ v. JudgesKey (key_in w.label.now kind.Counter Uninit w.name.now) v p q) (λ v. DecidesEvent (event_of c.args.event.now) v p q)
    (λ v j. subst (λ (e : EventRef). DecidesEvent (event_of e) v p q) (sym w.is) (inc_decides p q w.label.now w.name.now v w.n j)) c.judge.ensures.judged

pub returns-in-Inc-clause-err : goal.returns-in-Inc-clause-err
returns-in-Inc-clause-err g c =
    let K = g.A.KnowsLog.known in let p = K c.args.self.now in let q = K c.judge.new.self in let e = event_of c.args.event.now in
    on_err c.judge.result (CallsInVain p q) (CutsEvent e p q) (none_decided p q e) c.judge.ensures.err

pub returns-in-Gauge-clause-decided : goal.returns-in-Gauge-clause-decided
returns-in-Gauge-clause-decided g c =
    let K = g.A.KnowsLog.known in let p = K c.args.self.now in let q = K c.judge-in-Gauge.new.self in let w = c.in-Gauge in
    if_ok c.judge-in-Gauge.result (λ v. JudgesKey (key_in w.label.now kind.Gauge w.mode w.name.now) v p q) (λ v. DecidesEvent (event_of c.args.event.now) v p q)
    (λ v j. subst (λ (e : EventRef). DecidesEvent (event_of e) v p q) (sym w.is) (gauge_decides p q w.label.now w.name.now v w.mode w.op w.n j)) c.judge-in-Gauge.ensures.judged

pub returns-in-Gauge-clause-err : goal.returns-in-Gauge-clause-err
returns-in-Gauge-clause-err g c =
    let K = g.A.KnowsLog.known in let p = K c.args.self.now in let q = K c.judge-in-Gauge.new.self in let e = event_of c.args.event.now in
    on_err c.judge-in-Gauge.result (CallsInVain p q) (CutsEvent e p q) (none_decided p q e) c.judge-in-Gauge.ensures.err

pub returns-in-Rec-clause-decided : goal.returns-in-Rec-clause-decided
returns-in-Rec-clause-decided g c =
    let K = g.A.KnowsLog.known in let p = K c.args.self.now in let q = K c.judge-in-Rec.new.self in let w = c.in-Rec in
    if_ok c.judge-in-Rec.result (λ v. JudgesKey (key_in w.label.now kind.Histogram Uninit w.name.now) v p q) (λ v. DecidesEvent (event_of c.args.event.now) v p q)
    (λ v j. subst (λ (e : EventRef). DecidesEvent (event_of e) v p q) (sym w.is) (rec_decides p q w.label.now w.name.now v w.v j)) c.judge-in-Rec.ensures.judged

pub returns-in-Rec-clause-err : goal.returns-in-Rec-clause-err
returns-in-Rec-clause-err g c =
    let K = g.A.KnowsLog.known in let p = K c.args.self.now in let q = K c.judge-in-Rec.new.self in let e = event_of c.args.event.now in
    on_err c.judge-in-Rec.result (CallsInVain p q) (CutsEvent e p q) (none_decided p q e) c.judge-in-Rec.ensures.err

pub returns-in-OpenScope-clause-decided : goal.returns-in-OpenScope-clause-decided
returns-in-OpenScope-clause-decided g c =
    let K = g.A.KnowsLog.known in let p = K c.args.self.now in let q = K c.open.new.self in let w = c.in-OpenScope in
    if_ok c.open.result (λ v. CallsBook 1 (call.OpenScope w.label.now w.prefix.now) v p q) (λ v. DecidesEvent (event_of c.args.event.now) v p q)
    (λ v j. subst (λ (e : EventRef). DecidesEvent (event_of e) v p q) (sym w.is) (open_decides p q w.label.now w.prefix.now v j)) c.open.ensures.step

pub returns-in-OpenScope-clause-err : goal.returns-in-OpenScope-clause-err
returns-in-OpenScope-clause-err g c =
    let K = g.A.KnowsLog.known in let p = K c.args.self.now in let q = K c.open.new.self in let e = event_of c.args.event.now in
    on_err c.open.result (CallsInVain p q) (CutsEvent e p q) (none_decided p q e) c.open.ensures.err

pub returns-in-Release-clause-decided : goal.returns-in-Release-clause-decided
returns-in-Release-clause-decided g c =
    let K = g.A.KnowsLog.known in let p = K c.args.self.now in let q = K c.release.new.self in let w = c.in-Release in
    if_ok c.release.result (λ v. CallsBook 0 (call.Release w.label.now) v p q) (λ v. DecidesEvent (event_of c.args.event.now) v p q)
    (λ v j. subst (λ (e : EventRef). DecidesEvent (event_of e) v p q) (sym w.is) (release_decides p q w.label.now v j)) c.release.ensures.step

pub returns-in-Release-clause-err : goal.returns-in-Release-clause-err
returns-in-Release-clause-err g c =
    let K = g.A.KnowsLog.known in let p = K c.args.self.now in let q = K c.release.new.self in let e = event_of c.args.event.now in
    on_err c.release.result (CallsInVain p q) (CutsEvent e p q) (none_decided p q e) c.release.ensures.err
