use Rattle.std.proofs.Common.{rules, arith, ◌∙◌, ap}
use Rattle.std.proofs.lemmas.Grind.{common_steps}
use Rattle.metric_words.specs.GaugeLedger.{gauge_known}
use Rattle.flush_words.proofs.Appending.{gauge_load-pushed, last-pushed}
use Rattle.flush_words.proofs.gauge_ends.load_last.Goals as goal

pub loop-id-preserved : goal.loop-id-preserved
loop-id-preserved c =
    let i = c.loop-id.invariant in let t = c.value-word.ensures in let push = c.push_reserved.ensures.items in let rs = c.loop-id.readings.items in
    let first = gauge_known c.args.seat.now in let new = c.push_reserved.new.self.items in let k = gauge_known c.loop-id.seat in (
      ap (λ z. z.bank) t.known ∙ i.0,
      gauge_load-pushed rs new _ first k (gauge_known c.value-word.new.seat) push i.1 t.known,
      grind (arith, common_steps, i.2, push),
      last-pushed rs new _ first k push i.1 c.requires.whole t.whole i.3,
      search rules,
      search rules,
    )
