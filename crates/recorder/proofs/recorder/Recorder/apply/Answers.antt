use Rattle.std.proofs.Common.{◌+◌, refl, ap, sym, ◌∙◌, subst, arith}
use Rattle.stat_defs.specs.Borrowed.{event_of}
use Rattle.book_seat.proofs.Results.{err_so}
use Rattle.locked_book.specs.Sharing.{known_by}
use Rattle.book_seat.specs.Deciding.{hit_in}
use Rattle.store_parts.specs.Ids.{StoreIds}
use Rattle.recorder.specs.declared.recorder.Recorder.TheInside.{Inside}
use Rattle.recorder.specs.Knowing.{RecorderKnown}
use Rattle.recorder.specs.Calling.{Applies, IsCutShort}
use Rattle.recorder.specs.RecorderKept.{shown}
use Rattle.recorder.proofs.SeatMoves.{grows_moves, rec_cut, alone_told}
use Rattle.recorder.proofs.RecorderLemmas.{hand_of, has_room, decided, kept_after, kept_cut, shown_cut}
use Rattle.recorder.proofs.recorder.Recorder.apply.Goals as goal

pub decide-requires : goal.decide-requires
decide-requires g c =
    let given = ap (λ (r : RecorderKnown). r.given) c.self.view_is in let few = c.requires.few in let o = c.self.invariant.openings in
    record {
      rests = ap (λ (r : RecorderKnown). r.of.lock) c.self.view_is ∙ ap (λ (i : StoreIds). i.lock) c.requires.own;
      works = c.self.invariant.works;
      lawful = c.requires.lawful;
      room = omega (arith, given, few, o);
    }

pub act-requires : goal.act-requires
act-requires g c =
    let given = ap (λ (r : RecorderKnown). r.given) c.self.view_is in let few = c.requires.few in
    record {
      own = hand_of c.args.store.now c.self.inside c.args.self.now.of (ap (λ (r : RecorderKnown). r.of) (sym c.self.view_is)) c.requires.own;
      lawful = c.requires.lawful;
      word = c.in_ok-verdict.ensures.decided.in_room;
      room = has_room c.self.inside c.self.invariant (omega (arith, given, few));
    }

pub invariant_of-self : goal.invariant_of-self
invariant_of-self g c =
    let given = ap (λ (r : RecorderKnown). r.given) c.self.view_is in let few = c.requires.few in
    let r = c.self.inside in let cut = c.in_err-verdict.ensures.err in
    let new : Inside = record r { seat = c.decide.new.self; given = r.given + 1 } in
    kept_cut r new c.self.invariant (omega (arith, given, few)) refl (grows_moves 0 (known_by r.seat) (known_by new.seat) _ (omega arith) cut.left cut.stays) refl refl

pub invariant_of-self-in_err-act : goal.invariant_of-self-in_err-act
invariant_of-self-in_err-act g c =
    let given = ap (λ (r : RecorderKnown). r.given) c.self.view_is in let few = c.requires.few in
    let r = c.self.inside in let did = c.in_ok-verdict.ensures.decided in
    let new : Inside = record r { seat = c.decide.new.self; hand = c.act.new.hand; given = r.given + 1 } in
    kept_cut r new c.self.invariant (omega (arith, given, few)) refl (grows_moves 1 (known_by r.seat) (known_by new.seat) _ (omega arith) did.added did.stays) c.in_err-act.ensures.same refl

pub invariant_of-self-2 : goal.invariant_of-self-2
invariant_of-self-2 g c =
    let given = ap (λ (r : RecorderKnown). r.given) c.self.view_is in let few = c.requires.few in
    let r = c.self.inside in let did = c.in_ok-verdict.ensures.decided in
    let new : Inside = record r { seat = c.decide.new.self; hand = c.act.new.hand; given = r.given + 1; work = c.with_event-self-inside.result } in
    kept_after r new c.self.invariant (omega (arith, given, few)) refl (grows_moves 1 (known_by r.seat) (known_by new.seat) _ (omega arith) did.added did.stays)
    (event_of c.args.event.now) c.in_ok-verdict.verdict c.requires.lawful c.in_ok-act.ensures.acts c.with_event-self-inside.ensures did.names

pub returns-clause-ok : goal.returns-clause-ok
returns-clause-ok g c =
    let r = c.self.inside in let did = c.in_ok-verdict.ensures.decided in let e = event_of c.args.event.now in let v = c.in_ok-verdict.verdict in
    let lock = ap (λ (x : RecorderKnown). x.of.lock) c.self.view_is ∙ ap (λ (i : StoreIds). i.lock) c.requires.own in
    let new : Inside = record r { seat = c.decide.new.self; hand = c.act.new.hand; given = r.given + 1; work = c.with_event-self-inside.result } in
    subst (λ (x : RecorderKnown). Applies e v x (shown new)) c.self.view_is (record {
      event = did;
      alone = alone_told known_by (hit_in (known_by r.seat) e) c.decide.result v r.seat c.decide.new.self c.in_ok-verdict.was c.decide.ensures.alone;
      decided = decided r new (e, v) c.in_ok-act.ensures.acts c.with_event-self-inside.ensures (c.decide.ensures.rests ∙ sym lock) refl refl;
    })

pub returns-in_err-verdict-clause-err : goal.returns-in_err-verdict-clause-err
returns-in_err-verdict-clause-err g c =
    let r = c.self.inside in let e = event_of c.args.event.now in
    let lock = ap (λ (x : RecorderKnown). x.of.lock) c.self.view_is ∙ ap (λ (i : StoreIds). i.lock) c.requires.own in
    let new : Inside = record r { seat = c.decide.new.self; given = r.given + 1 } in
    err_so c.from_residual.result (IsCutShort e c.args.self.now (shown new)) (subst (λ (x : RecorderKnown). IsCutShort e x (shown new)) c.self.view_is (record {
      left = c.in_err-verdict.ensures.err.left;
      rest = shown_cut r new (c.decide.ensures.rests ∙ sym lock) refl refl refl refl;
    }))

pub returns-in_err-act-clause-err : goal.returns-in_err-act-clause-err
returns-in_err-act-clause-err g c =
    let r = c.self.inside in let e = event_of c.args.event.now in
    let lock = ap (λ (x : RecorderKnown). x.of.lock) c.self.view_is ∙ ap (λ (i : StoreIds). i.lock) c.requires.own in
    let new : Inside = record r { seat = c.decide.new.self; hand = c.act.new.hand; given = r.given + 1 } in
    err_so c.from_residual-in_err-act.result (IsCutShort e c.args.self.now (shown new)) (subst (λ (x : RecorderKnown). IsCutShort e x (shown new)) c.self.view_is (record {
      left = rec_cut (known_by r.seat) (known_by new.seat) e c.in_ok-verdict.verdict c.in_err-act.ensures.event c.in_ok-verdict.ensures.decided.added;
      rest = shown_cut r new (c.decide.ensures.rests ∙ sym lock) c.in_err-act.ensures.same refl refl refl;
    }))
