use Rattle.std.proofs.Common.{◌≡◌, ◌∙◌, List, length, ap, rules}
use Rattle.std.specs.List.{enumerate_from}
use Rattle.std.proofs.lemmas.List.{length-map}
use Rattle.std.proofs.lemmas.List.FromFn.{length-enumerate_from}
use Rattle.stat_defs.specs.declared.metrics.Metric.{Metric}
use Rattle.stat_defs.specs.declared.reports.LogNames.{LogNames}
use Rattle.book_state.specs.State.{metrics_of}
use Rattle.flush_view.specs.ByName.{by_name}
use Rattle.flush_view.specs.Kept.{last_book, ordered_metrics, metrics_made}
use Rattle.flush_view.specs.Views.{NumberedMetric, row_name, numbered_metrics}
use Rattle.flush_view.proofs.Ready.{log_next, started}
use Rattle.flush_view.proofs.Viewing.{length-by_name}
use Rattle.flush_view.proofs.report_views.ReportViews.new.Goals as goal

pub befores_in-requires-clause-changes : goal.befores_in-requires-clause-changes
befores_in-requires-clause-changes c = c.items.ensures ∙ ap (λ (n : LogNames). n.changes) c.requires.names

pub invariant_of-result : goal.invariant_of-result
invariant_of-result c =
    let config = c.args.config.now in
    let report = c.args.report.now in
    let metrics : c.in_ok-metrics.metrics.items ≡ ordered_metrics config report =
    c.in_ok-metrics.ensures
    ∙ ap (λ (l : List Metric). by_name row_name (enumerate_from 0 l))
    (c.into_items.ensures ∙ ap (λ (n : LogNames). n.metrics) c.requires.names) in
    let read : c.len.result ≡ length c.in_ok-metrics.metrics.items = search rules in
    let counted : c.len.result ≡ metrics_made config report =
    read ∙ ap (λ (l : List NumberedMetric). length l) metrics
    ∙ length-by_name row_name (numbered_metrics (last_book config report))
    ∙ length-enumerate_from 0 (metrics_of (last_book config report))
    ∙ length-map (last_book config report).metrics (λ row. row.metric) in
    record {
      metrics = metrics;
      befores = c.in_ok-befores.ensures;
      buckets = c.requires.buckets;
      ready = λ whole. record {
        showable = c.requires.showable;
        next = log_next config report c.requires.showable c.requires.showable.calls;
        followed = started config report _ _ c.in_ok-progress.ensures counted;
      };
    }
