use Rattle.std.proofs.Common.{Bool, ap, sym, ◌∙◌, subst, arith}
use Rattle.book_seat.proofs.Results.{err_so}
use Rattle.half_side.specs.Halves.{LooksAndTurns}
use Rattle.locked_book.specs.Sharing.{known_by}
use Rattle.store_parts.specs.Ids.{StoreIds}
use Rattle.recorder.specs.declared.polling.Polled.{Polled}
use Rattle.recorder.specs.Knowing.{RecorderKnown}
use Rattle.recorder.specs.Calling.{PollsOnce, PollIsCutShort}
use Rattle.recorder.specs.RecorderKept.{shown}
use Rattle.recorder.proofs.SeatMoves.{grows_moves, acks_moves}
use Rattle.recorder.proofs.PollLemmas.{cell_within, cell_is, polled, turned_told, kept_polled, shown_polled}
use Rattle.recorder.proofs.recorder.Recorder.poll.Goals as goal

pub cell_at-requires : goal.cell_at-requires
cell_at-requires g c = cell_within c.args.store.now c.self.inside c.args.self.now c.self.view_is c.requires.cell

pub turn_if_asked-turned-requires : goal.turn_if_asked-turned-requires
turn_if_asked-turned-requires g c = cell_is c.args.store.now c.self.inside c.args.self.now c.cell_at.result.now c.self.view_is c.requires.cell c.cell_at.ensures

pub poll-requires : goal.poll-requires
poll-requires g c = record {
  rests = ap (λ (r : RecorderKnown). r.of.lock) c.self.view_is ∙ ap (λ (i : StoreIds). i.lock) c.requires.own;
  works = c.self.invariant.works;
}

pub invariant_of-self : goal.invariant_of-self
invariant_of-self g c =
    let r = c.self.inside in let s = c.poll.new.self in let cut = c.in_err-acked.ensures.err in
    kept_polled c.turn_if_asked-turned.result r s c.turn_if_asked-turned.new.self c.self.invariant c.turn_if_asked-turned.ensures
    (grows_moves 0 (known_by r.seat) (known_by s) _ (omega arith) cut.left cut.stays) cut.stays.opened

pub invariant_of-self-2 : goal.invariant_of-self-2
invariant_of-self-2 g c =
    let r = c.self.inside in let s = c.poll.new.self in let did = c.in_ok-acked.ensures.polls in
    kept_polled c.turn_if_asked-turned.result r s c.turn_if_asked-turned.new.self c.self.invariant c.turn_if_asked-turned.ensures
    (acks_moves (known_by r.seat) (known_by s) did.due did.stays) did.stays.opened

pub returns-clause-ok : goal.returns-clause-ok
returns-clause-ok g c =
    let r = c.self.inside in let s = c.poll.new.self in let side = c.turn_if_asked-turned.new.self in let looks = c.turn_if_asked-turned.ensures in
    let lock = ap (λ (x : RecorderKnown). x.of.lock) c.self.view_is ∙ ap (λ (i : StoreIds). i.lock) c.requires.own in
    let told : Polled = record { turned = c.turn_if_asked-turned.result; acked = c.in_ok-acked.acked } in
    subst (λ (x : RecorderKnown). PollsOnce told x (shown (polled r s side))) c.self.view_is (record {
      half = looks;
      turns = λ is. turned_told r s side (subst (λ (b : Bool). LooksAndTurns b r.hand.side side) is looks);
      log = c.in_ok-acked.ensures.polls;
      rest = shown_polled r s side (c.poll.ensures.rests ∙ sym lock);
    })

pub returns-in_err-acked-clause-err : goal.returns-in_err-acked-clause-err
returns-in_err-acked-clause-err g c =
    let r = c.self.inside in let s = c.poll.new.self in let side = c.turn_if_asked-turned.new.self in
    let lock = ap (λ (x : RecorderKnown). x.of.lock) c.self.view_is ∙ ap (λ (i : StoreIds). i.lock) c.requires.own in
    err_so c.from_residual.result (PollIsCutShort c.args.self.now (shown (polled r s side))) (subst (λ (x : RecorderKnown). PollIsCutShort x (shown (polled r s side))) c.self.view_is (record {
      turned = c.turn_if_asked-turned.result;
      half = c.turn_if_asked-turned.ensures;
      log = c.in_err-acked.ensures.err;
      rest = shown_polled r s side (c.poll.ensures.rests ∙ sym lock);
    }))
