use Rattle.std.proofs.Common.{rules, arith, ◌∙◌, ap}
use Rattle.std.proofs.lemmas.Grind.{common_steps}
use Rattle.metric_words.specs.CounterLedger.{flush_known}
use Rattle.flush_words.proofs.Appending.{latch-pushed, whole-pushed}
use Rattle.flush_words.proofs.latching.latch_into.Goals as goal

pub loop-id-preserved : goal.loop-id-preserved
loop-id-preserved c =
    let i = c.loop-id.invariant in let t = c.latch-n.ensures in let push = c.push_reserved.ensures.items in let ds = c.loop-id.deltas.items in
    let new = c.push_reserved.new.self.items in let k = flush_known c.loop-id.flush in let k' = flush_known c.latch-n.new.seat in (
      ap (λ z. z.bank) t.known ∙ i.0,
      latch-pushed ds new _ (flush_known c.args.flush.now) k k' push i.1 t.known,
      grind (arith, common_steps, i.2, push),
      whole-pushed ds new _ k k' push t.known i.3 t.whole,
      search rules,
      search rules,
    )
