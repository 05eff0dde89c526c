use Rattle.std.proofs.Common.{arith, ◌∙◌}
use Rattle.metric_words.proofs.CounterDeals.{opens}
use Rattle.metric_words.proofs.counter_bank.CounterBank.new.Goals as goal

pub of_words-requires : goal.of_words-requires
of_words-requires c = opens _ _ (c.as_slice.ensures.value ∙ c.in_ok-words.ensures.items_if_clones_equal (λ y h. h)) (omega (arith, c.requires.workers))
