-- What a seat of a bank knows after latches or loads of a list of metrics (this project's own).
use Rattle.std.specs.Prelude.{List, [], ◌∷◌}
use Rattle.stat_defs.specs.declared.reports.Delta.{Delta}
use Rattle.stat_defs.specs.declared.reports.Reading.{Reading}
use Rattle.metric_words.specs.declared.counter_view.CountKind.TheVariants as count
use Rattle.metric_words.specs.declared.gauge_view.GaugeKind.TheVariants as gauge
use Rattle.metric_words.specs.Counters.{step_of}
use Rattle.metric_words.specs.CounterLedger.{CounterKnown, after_step}
use Rattle.metric_words.specs.Gauges.{gauge_step}
use Rattle.metric_words.specs.GaugeLedger.{GaugeKnown, after_gauge_step}

-- after a latch of each of these counters, in order, which found its units
abbrev pub after_latches : List Delta → CounterKnown → CounterKnown
after_latches [] k = k
after_latches (d ∷ ds) k = after_latches ds (after_step (step_of count.Latch d.id.0 0 d.n) k)

-- after a load of each of these counters' values, in order, which found its word
abbrev pub after_loads : List Reading → CounterKnown → CounterKnown
after_loads [] k = k
after_loads (r ∷ rs) k = after_loads rs (after_step (step_of count.Load r.id.0 0 r.word) k)

-- after a load of each of these gauges, in order, which found its word
abbrev pub after_gauge_loads : List Reading → GaugeKnown → GaugeKnown
after_gauge_loads [] k = k
after_gauge_loads (r ∷ rs) k = after_gauge_loads rs (after_gauge_step (gauge_step gauge.Load r.id.0 0 r.word) k)
