use Rattle.store_pages.proofs.Counting.{pages_count}
use Rattle.store_pages.proofs.laws.pages_count.Goals as goal

pub returns : goal.returns
returns c = pages_count
