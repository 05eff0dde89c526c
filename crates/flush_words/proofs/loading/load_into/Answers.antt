use Rattle.std.proofs.Common.{rules, arith, ◌∙◌, ap}
use Rattle.std.proofs.lemmas.Grind.{common_steps}
use Rattle.metric_words.specs.GaugeLedger.{gauge_known}
use Rattle.flush_words.proofs.Appending.{gauge_load-pushed}
use Rattle.flush_words.proofs.loading.load_into.Goals as goal

pub loop-id-preserved : goal.loop-id-preserved
loop-id-preserved c =
    let i = c.loop-id.invariant in let t = c.value-word.ensures in let push = c.push_reserved.ensures.items in (
      ap (λ z. z.bank) t.known ∙ i.0,
      gauge_load-pushed c.loop-id.readings.items c.push_reserved.new.self.items _ (gauge_known c.args.seat.now) (gauge_known c.loop-id.seat) (gauge_known c.value-word.new.seat) push i.1 t.known,
      grind (arith, common_steps, i.2, push),
      search rules,
      search rules,
    )
