use Rattle.flush_view.proofs.RowsBins.{views_have_bins}
use Rattle.flush_view.proofs.laws.views_have_bins.Goals as goal

pub returns : goal.returns
returns c = views_have_bins
