use Rattle.std.proofs.Common.{arith, ◌≡◌, ◌/◌, subst, sym}
use Rattle.std.specs.Mem.Slots.{slots_items}
use Rattle.metric_words.specs.CounterLedger.{size_of, HasWords}
use Rattle.metric_words.proofs.CounterEnds.{closes}
use Rattle.metric_words.proofs.counter_bank.CounterBank.close.Goals as goal

pub returns : goal.returns
returns c = let final = c.close_with-closed.ensures.values in let words = slots_items c.close_with-closed.result.words in
    let half : c.word_count-size.result / 8 ≡ size_of c.args.self = omega (arith, c.word_count-size.ensures, c.args.self.sized.0) in
    closes _ _ _ _ _ _ _ c.args.seats _ _ final.2 c.requires c.gather-all.ensures.totals c.gather-all.ensures.reader
    (subst (λ n. HasWords n words c.of.result c.of-2.result) half
    (subst (λ vs. HasWords (c.word_count-size.result / 8) words vs c.of-2.result) (sym c.of.ensures)
    (subst (λ ps. HasWords (c.word_count-size.result / 8) words c.read_out.new.values.items ps) (sym c.of-2.ensures) c.read_out.ensures)))
