use Rattle.symbol_table.proofs.Adding.{text_counted_all, text_again_all, text_uncounted_all}
use Rattle.symbol_table.proofs.laws.texts_stay.Goals as goal

pub returns : goal.returns
returns c = record { counted = text_counted_all; again = text_again_all; uncounted = text_uncounted_all }
