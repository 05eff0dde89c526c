-- Metrics with their numbers as they are kept for views. This project's own.
use Rattle.std.specs.Prelude.{◌&&◌, List, map, filter}
use Rattle.stat_defs.specs.declared.ids.Kind.{Kind}
use Rattle.stat_defs.specs.declared.metrics.Metric.{Metric}
use Rattle.stat_defs.specs.Keys.{same_kind}
use Rattle.flush_view.specs.Views.{NumberedMetric}
use Rattle.flush_view.specs.Symbols.{is_live_life}

-- those of a kind that are live
abbrev pub live_in : List NumberedMetric → Kind → List Metric
live_in metrics kind =
    map (λ (numbered : NumberedMetric). numbered.1)
    (filter (λ numbered. is_live_life numbered.1.life && same_kind numbered.1.kind kind) metrics)
