use Rattle.library_examples.proofs.StoreShown.{stores_show}
use Rattle.library_examples.proofs.laws.stores_show.Goals as goal

pub returns : goal.returns
returns c = stores_show
