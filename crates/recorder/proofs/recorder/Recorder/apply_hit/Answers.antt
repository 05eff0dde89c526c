use Rattle.std.proofs.Common.{◌≡◌, ◌+◌, Option, Some, IfSome, refl, ap, sym, ◌∙◌, subst, arith}
use Rattle.stat_defs.specs.Borrowed.{event_of}
use Rattle.stat_defs.specs.declared.history.Verdict.{Verdict}
use Rattle.book_seat.specs.Naming.{IsInRoom}
use Rattle.book_seat.specs.Deciding.{hit_in}
use Rattle.book_seat.proofs.Results.{err_so}
use Rattle.locked_book.specs.Sharing.{known_by}
use Rattle.recorder.specs.declared.hand.Hand.{Hand}
use Rattle.recorder.specs.declared.recorder.Recorder.TheInside.{Inside}
use Rattle.recorder.specs.Acting.{IsSure}
use Rattle.recorder.specs.Knowing.{RecorderKnown}
use Rattle.recorder.specs.Calling.{Hits, IsSureHit}
use Rattle.recorder.specs.RecorderKept.{shown, IsKept}
use Rattle.recorder.proofs.SeatMoves.{still_moves, hit_names, names_room, err_not_ok}
use Rattle.recorder.proofs.RecorderLemmas.{hand_of, has_room, decided, kept_after}
use Rattle.recorder.proofs.recorder.Recorder.apply_hit.Goals as goal

pub act-requires : goal.act-requires
act-requires c =
    let given = ap (λ (r : RecorderKnown). r.given) c.self.view_is in let few = c.requires.few in
    record {
      own = hand_of c.args.store.now c.self.inside c.args.self.now.of (ap (λ (r : RecorderKnown). r.of) (sym c.self.view_is)) c.requires.own;
      lawful = c.requires.lawful;
      word = names_room (event_of c.args.event.now) c.in-Some.verdict (subst (λ (o : Option Verdict). IfSome o IsInRoom) c.in-Some.is c.hit_event.ensures.in_room);
      room = has_room c.self.inside c.self.invariant (omega (arith, given, few));
    }

pub invariant_of-self : goal.invariant_of-self
invariant_of-self c = subst (λ (h : Hand). IsKept (record c.self.inside { hand = h })) (sym c.in_err-act.ensures.same) c.self.invariant

pub invariant_of-self-2 : goal.invariant_of-self-2
invariant_of-self-2 c =
    let given = ap (λ (r : RecorderKnown). r.given) c.self.view_is in let few = c.requires.few in
    let r = c.self.inside in let is = c.self.invariant in let k = known_by r.seat in let e = event_of c.args.event.now in let v = c.in-Some.verdict in
    let new : Inside = record r { hand = c.act.new.hand; given = r.given + 1; work = c.with_event-self-inside.result } in
    kept_after r new is (omega (arith, given, few)) refl (still_moves k is.works is.legal) e v c.requires.lawful c.in_ok-act.ensures.acts c.with_event-self-inside.ensures
    (hit_names k e v is.legal (sym c.hit_event.ensures.hit ∙ c.in-Some.is))

pub returns-clause-hit : goal.returns-clause-hit
returns-clause-hit c =
    subst (λ (s : RecorderKnown). Some c.in-Some.verdict ≡ hit_in s.seat (event_of c.args.event.now)) c.self.view_is (sym c.in-Some.is ∙ c.hit_event.ensures.hit)

pub returns-clause-did : goal.returns-clause-did
returns-clause-did c =
    let r = c.self.inside in let e = event_of c.args.event.now in let v = c.in-Some.verdict in
    let new : Inside = record r { hand = c.act.new.hand; given = r.given + 1; work = c.with_event-self-inside.result } in
    subst (λ (s : RecorderKnown). Hits e (Some v) s (shown new)) c.self.view_is
    (decided r new (e, v) c.in_ok-act.ensures.acts c.with_event-self-inside.ensures refl refl refl, refl)

pub returns-in_err-act-clause-err : goal.returns-in_err-act-clause-err
returns-in_err-act-clause-err c =
    let r = c.self.inside in let new : Inside = record r { hand = c.act.new.hand } in
    err_so c.from_residual.result (shown new ≡ c.args.self.now) (ap (λ (h : Hand). shown (record r { hand = h })) c.in_err-act.ensures.same ∙ c.self.view_is)

pub returns-in_err-act-clause-sure : goal.returns-in_err-act-clause-sure
returns-in_err-act-clause-sure c sure =
    let e = event_of c.args.event.now in let half = c.self.inside.hand.side.active in
    let shown_sure = subst (λ (r : RecorderKnown). IsSureHit r e) (sym c.self.view_is) sure in
    let is_sure = subst (λ (o : Option Verdict). IfSome o (λ v. IsSure e v half)) (sym c.hit_event.ensures.hit ∙ c.in-Some.is) shown_sure in
    absurd (err_not_ok c.act.result _ c.in_err-act.was (c.act.ensures.sure is_sure))
