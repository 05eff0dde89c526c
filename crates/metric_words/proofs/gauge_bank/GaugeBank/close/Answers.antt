use Rattle.std.proofs.Common.{◌≡◌, ◌/◌, arith, subst, sym}
use Rattle.std.specs.Mem.Slots.{slots_items}
use Rattle.metric_words.specs.GaugeLedger.{gauges_size, SameWords}
use Rattle.metric_words.proofs.GaugeEnds.{closes}
use Rattle.metric_words.proofs.gauge_bank.GaugeBank.close.Goals as goal

pub returns : goal.returns
returns c = let final = c.close_with-closed.ensures.values in let words = slots_items c.close_with-closed.result.words in
    let size : c.word_count-size.result / 8 ≡ gauges_size c.args.self = omega (arith, c.word_count-size.ensures, c.args.self.sized.0) in
    closes _ _ _ _ _ _ c.args.seats _ final.2 c.requires c.gather-all.ensures.parts
    (subst (λ n. SameWords n words c.of.result) size (subst (λ ws. SameWords (c.word_count-size.result / 8) words ws) (sym c.of.ensures) c.read_words.ensures))
