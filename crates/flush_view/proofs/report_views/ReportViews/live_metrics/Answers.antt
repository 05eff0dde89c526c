use Rattle.std.proofs.Common.{◌≡◌, ◌∙◌, List, IfOk, map, ap, subst}
use Rattle.std.specs.List.{flat_map}
use Rattle.stat_defs.specs.declared.metrics.Metric.{Metric}
use Rattle.flush_view.specs.ByName.{by_name}
use Rattle.flush_view.specs.Kept.{last_book}
use Rattle.flush_view.specs.Named.{live_in}
use Rattle.flush_view.specs.Showing.{ViewHistory}
use Rattle.flush_view.specs.Symbols.{kinds, live_metrics}
use Rattle.flush_view.specs.Views.{NumberedMetric}
use Rattle.flush_view.proofs.Picked.{live_are}
use Rattle.flush_view.proofs.report_views.ReportViews.live_metrics.Goals as goal

pub returns : goal.returns
returns c =
    let config = c.self.inside.config.now in
    let report = c.self.inside.report.now in
    subst (λ (all : List Metric). IfOk c.live_in_order.result
    (λ metrics. map (λ metric. metric.now) metrics.items ≡ all))
    (ap (λ (metrics : List NumberedMetric). by_name (λ (metric : Metric). metric.name)
    (flat_map (live_in metrics) kinds)) (c.deref.ensures.value ∙ c.self.invariant.metrics)
    ∙ live_are (last_book config report)
    ∙ ap (λ (v : ViewHistory). live_metrics (last_book v.config v.report)) c.self.view_is)
    c.live_in_order.ensures
