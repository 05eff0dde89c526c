use Rattle.live_view.proofs.Shown.{report_shows}
use Rattle.live_view.proofs.laws.report_shows.Goals as goal

pub returns : goal.returns
returns c = report_shows
