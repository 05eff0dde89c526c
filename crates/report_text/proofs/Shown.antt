-- Views that are shown have the histograms that the texts ask for.
use Rattle.std.proofs.Common.{◌≡◌, Some}
use Rattle.std.proofs.lemmas.List.Elements.{All-weaker}
use Rattle.stat_defs.specs.declared.views.FlushView.{FlushView}
use Rattle.text_parts.specs.Histograms.{AreHistograms, HasHistograms}
use Rattle.flush_view.specs.Showing.{IsShowable, HasBinsShown, ViewHistory, view_in_turn}
use Rattle.flush_view.proofs.RowsBins.{views_have_bins}

pub has_histograms : (views : ViewHistory) (shown : FlushView) → IsShowable views.config views.report
    → view_in_turn views ≡ Some shown
    → HasHistograms shown
has_histograms views shown showable is =
    All-weaker HasBinsShown AreHistograms
    (λ row has. record {
      interval = record { bins = has.interval.list; limit = has.interval.limit };
      cumulative = record { bins = has.cumulative.list; limit = has.cumulative.limit };
    })
    shown.histograms (views_have_bins views.config views.report views.given shown showable is)
