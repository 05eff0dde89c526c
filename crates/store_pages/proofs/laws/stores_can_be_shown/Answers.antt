use Rattle.store_pages.proofs.CanShow.{stores_can_be_shown}
use Rattle.store_pages.proofs.laws.stores_can_be_shown.Goals as goal

pub returns : goal.returns
returns c = stores_can_be_shown
