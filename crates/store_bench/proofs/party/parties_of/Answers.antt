use Rattle.std.proofs.Common.{All, sym}
use Rattle.std.proofs.lemmas.List.Elements.{All-head, All-tail, All-same}
use Rattle.std.specs.Vec.Iter.{into_iter_items}
use Rattle.store_bench.specs.Held.{IsAtHand}
use Rattle.store_bench.proofs.party.parties_of.Goals as goal

pub invariant_of-push : goal.invariant_of-push
invariant_of-push c = record {
  own = All-head (IsAtHand c.args.store.now 0) _ _ (All-same (IsAtHand c.args.store.now 0) _ _ (sym c.in-Some.ensures.steps.0) c.loop-recorder.invariant);
}

pub loop-recorder-preserved : goal.loop-recorder-preserved
loop-recorder-preserved c =
    All-tail (IsAtHand c.args.store.now 0) c.in-Some.recorder (into_iter_items c.next.new.self) (All-same (IsAtHand c.args.store.now 0) _ _ (sym c.in-Some.ensures.steps.0) c.loop-recorder.invariant)
