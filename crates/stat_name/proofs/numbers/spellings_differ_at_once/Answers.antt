use Rattle.stat_name.proofs.Spellings.{spelling_begins_one}
use Rattle.stat_name.proofs.numbers.spellings_differ_at_once.Goals as goal

pub returns : goal.returns
returns c = spelling_begins_one
