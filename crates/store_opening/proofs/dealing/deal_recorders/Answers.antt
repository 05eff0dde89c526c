use Rattle.std.proofs.Common.{◌-◌, ◌∷◌, [], ℕ, suc, List, length, length-append, ap, sym, subst, add-one, arith}
use Rattle.ledger.specs.Lists.{EachNumbered}
use Rattle.recorder.specs.Knowing.{RecorderKnown}
use Rattle.recorder.specs.Tied.{IsNewWorker}
use Rattle.store_opening.specs.Dealing.{AreLeft, HasLeft}
use Rattle.store_opening.proofs.Numbered.{one_more}
use Rattle.store_opening.proofs.NewWorkers.{new_seat, new_worker, stays_left, fewer_left}
use Rattle.store_opening.proofs.dealing.deal_recorders.Goals as goal

pub new_recorder-requires-clause-seat : goal.new_recorder-requires-clause-seat
new_recorder-requires-clause-seat c =
    let at = c.loop-place in let dealt = c.next_hand-hand in
    new_seat c.args.store.now at.place at.left dealt.new.left dealt.result dealt.ensures at.invariant.3 c.requires.legal
    (let below = c.loop-place-test.true in let count = c.len-workers.ensures in omega (arith, below, count))

pub loop-place-preserved : goal.loop-place-preserved
loop-place-preserved c =
    let i = c.loop-place.invariant in let store = c.args.store.now in let at = c.loop-place in let dealt = c.next_hand-hand in let push = c.push_reserved.ensures in
    let worker = new_worker store at.place at.left dealt.new.left dealt.result dealt.ensures i.3 c.requires.legal
    (let below = c.loop-place-test.true in let count = c.len-workers.ensures in omega (arith, below, count)) in (
      subst (λ (l : List RecorderKnown). EachNumbered (IsNewWorker store) 1 l) (sym push.items)
          (one_more (IsNewWorker store) 1 (suc at.place) at.recorders.items c.new_recorder.result i.0 (let count = i.1 in omega (arith, count))
          (subst (λ (r : RecorderKnown). IsNewWorker store (suc at.place) r) (sym c.new_recorder.ensures) worker)),
      (let all = ap length push.items in let sum = length-append at.recorders.items (c.new_recorder.result ∷ []) in let count = i.1 in omega (arith, all, sum, count)),
      (let count = i.2 in let more = push.len in omega (arith, count, more)),
      subst (λ (n : ℕ). AreLeft store n dealt.new.left) (sym (add-one at.place)) (stays_left store at.place at.left dealt.new.left dealt.result dealt.ensures i.3),
      subst (λ (n : ℕ). HasLeft n dealt.new.left) (omega arith) (fewer_left store at.place at.left dealt.new.left dealt.result dealt.ensures (c.len-workers.result - at.place) i.4),
      (let room = i.5 in let same = push.capacity in omega (arith, room, same)),
    )
