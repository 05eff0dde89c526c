use Rattle.std.proofs.Common.{◌≡◌, ℕ, ◌<◌, refl, ap, sym, subst, arith}
use Rattle.stat_defs.specs.Borrowed.{event_of}
use Rattle.stat_defs.specs.Events.{IsLawfulEvent}
use Rattle.stat_defs.specs.declared.borrowed.EventRef.{EventRef}
use Rattle.stat_defs.specs.declared.events.Event.TheVariants as event
use Rattle.stat_defs.specs.declared.history.Verdict.TheVariants as verdict
use Rattle.book_seat.specs.Naming.{IsInRoom, NamesInRoom}
use Rattle.book_seat.proofs.Results.{on_ok, on_err, err_so}
use Rattle.half_side.specs.Halves.{HalfKnown, after_recording}
use Rattle.recorder.specs.declared.hand.Hand.{Hand}
use Rattle.recorder.specs.Hands.{Acts, IsRecording}
use Rattle.recorder.proofs.HandLemmas.{acts_as, acts_inc, acts_gauge, acts_rec, quiet, none_acts, rec_sure}
use Rattle.recorder.proofs.hand.act.Goals as goal

pub returns-in_default-clause-acts : goal.returns-in_default-clause-acts
returns-in_default-clause-acts c = none_acts (event_of c.args.event.now) c.args.verdict c.args.hand.now c.in_default.not-Accepted

pub add-requires : goal.add-requires
add-requires c =
    let word = subst IsInRoom c.in-Accepted.is (subst (λ (e : EventRef). NamesInRoom (event_of e) c.args.verdict) c.in-Inc.is c.requires.word) in
    let lawful = subst (λ (e : EventRef). IsLawfulEvent (event_of e)) c.in-Inc.is c.requires.lawful in
    let small = lawful.2 in
    let units = c.requires.room.units c.in-Accepted.id.0 in
    record {
      bank = c.requires.own.counters;
      id = subst (λ (n : ℕ). c.in-Accepted.id.0 < n) (sym c.args.store.now.whole.sizes.0) word;
      units = omega (arith, small, units);
    }

pub returns-in-Inc-clause-acts : goal.returns-in-Inc-clause-acts
returns-in-Inc-clause-acts c =
    let w = c.in-Inc in let id = c.in-Accepted.id in let old = c.args.hand.now in let s = c.add.ensures in
    acts_as (event_of c.args.event.now) (event.Inc w.label.now w.name.now w.n) c.args.verdict (verdict.Accepted id) old (record old { counts = c.add.new.seat })
    (ap event_of w.is) c.in-Accepted.is (acts_inc w.label.now w.name.now w.n id old c.add.new.seat s.0 s.1 s.2)

pub step-requires : goal.step-requires
step-requires c =
    let word = subst IsInRoom c.in-Accepted.is (subst (λ (e : EventRef). NamesInRoom (event_of e) c.args.verdict) c.in-Gauge.is c.requires.word) in
    record { bank = c.requires.own.gauges; id = subst (λ (n : ℕ). c.in-Accepted.id.0 < n) (sym c.args.store.now.whole.sizes.1) word }

pub returns-in-Gauge-clause-acts : goal.returns-in-Gauge-clause-acts
returns-in-Gauge-clause-acts c =
    let w = c.in-Gauge in let id = c.in-Accepted.id in let old = c.args.hand.now in let s = c.step.ensures in
    acts_as (event_of c.args.event.now) (event.Gauge w.label.now w.name.now w.mode w.op w.n) c.args.verdict (verdict.Accepted id) old (record old { gauges = c.step.new.seat })
    (ap event_of w.is) c.in-Accepted.is (acts_gauge w.label.now w.name.now w.mode w.op w.n id old c.step.new.seat s.0 s.1)

pub returns-in-Rec-clause-sure : goal.returns-in-Rec-clause-sure
returns-in-Rec-clause-sure c is = let w = c.in-Rec in
    c.record.ensures.sure (rec_sure (event_of c.args.event.now) w.label.now w.name.now w.v c.args.verdict c.in-Accepted.id c.args.hand.now.side.active (ap event_of w.is) c.in-Accepted.is is)

pub returns-in-Rec-clause-acts : goal.returns-in-Rec-clause-acts
returns-in-Rec-clause-acts c =
    let w = c.in-Rec in let id = c.in-Accepted.id in let old = c.args.hand.now in let side = c.record.new.self in
    let new : Hand = record { counts = old.counts; gauges = old.gauges; side = side } in
    on_ok c.record.result (side ≡ after_recording id.0 w.v old.side) (Acts (event_of c.args.event.now, c.args.verdict) old new)
    (λ made. acts_as (event_of c.args.event.now) (event.Rec w.label.now w.name.now w.v) c.args.verdict (verdict.Accepted id) old new
    (ap event_of w.is) c.in-Accepted.is (acts_rec w.label.now w.name.now w.v id old side made)) c.record.ensures.ok

pub returns-in-Rec-clause-same : goal.returns-in-Rec-clause-same
returns-in-Rec-clause-same c =
    let old = c.args.hand.now in let side = c.record.new.self in
    let new : Hand = record { counts = old.counts; gauges = old.gauges; side = side } in
    on_err c.record.result (side ≡ old.side) (new ≡ old) (λ is. ap (λ (k : HalfKnown). record old { side = k }) is) c.record.ensures.err

pub returns-in-Rec-clause-event : goal.returns-in-Rec-clause-event
returns-in-Rec-clause-event c = err_so c.record.result (IsRecording (event_of c.args.event.now)) (subst (λ (e : EventRef). IsRecording (event_of e)) (sym c.in-Rec.is) tt)

pub record-requires : goal.record-requires
record-requires c = c.requires.room.values

pub returns-in-SetText-clause-acts : goal.returns-in-SetText-clause-acts
returns-in-SetText-clause-acts c =
    let w = c.in-SetText in let h = c.args.hand.now in let e = event.SetText w.label.now w.name.now w.text.now in
    acts_as (event_of c.args.event.now) e c.args.verdict c.args.verdict h h (ap event_of w.is) refl (quiet (e, c.args.verdict) h refl refl refl refl)

pub returns-in-OpenScope-clause-acts : goal.returns-in-OpenScope-clause-acts
returns-in-OpenScope-clause-acts c =
    let w = c.in-OpenScope in let h = c.args.hand.now in let e = event.OpenScope w.label.now w.prefix.now in
    acts_as (event_of c.args.event.now) e c.args.verdict c.args.verdict h h (ap event_of w.is) refl (quiet (e, c.args.verdict) h refl refl refl refl)

pub returns-in-Release-clause-acts : goal.returns-in-Release-clause-acts
returns-in-Release-clause-acts c =
    let w = c.in-Release in let h = c.args.hand.now in let e = event.Release w.label.now in
    acts_as (event_of c.args.event.now) e c.args.verdict c.args.verdict h h (ap event_of w.is) refl (quiet (e, c.args.verdict) h refl refl refl refl)
