use Rattle.name_list.proofs.Lists.{ids-below}
use Rattle.name_list.proofs.laws.ids_are_below.Goals as goal

pub returns : goal.returns
returns c = ids-below
