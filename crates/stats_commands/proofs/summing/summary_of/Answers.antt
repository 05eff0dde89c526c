use Rattle.flush_view.specs.Showing.{first_views}
use Rattle.report_text.proofs.Shown.{has_histograms}
use Rattle.stats_commands.proofs.summing.summary_of.Goals as goal

pub summary-requires-clause-histograms : goal.summary-requires-clause-histograms
summary-requires-clause-histograms c =
    has_histograms (first_views c.args.recorded.config c.args.recorded.report) c.in_ok-view.view c.requires.recorded_is.showable
    c.in_ok-view.ensures
