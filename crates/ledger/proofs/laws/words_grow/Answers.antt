use Rattle.ledger.proofs.Words.{word_event, alone, one_worker}
use Rattle.ledger.proofs.laws.words_grow.Goals as goal

pub returns : goal.returns
returns c = record { event = word_event; alone = alone; one_worker = one_worker }
