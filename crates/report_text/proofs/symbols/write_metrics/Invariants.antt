use Rattle.std.proofs.Common.{◌≤◌, take}
use Rattle.std.specs.List.{flat_map}
use Rattle.text_parts.specs.Gathered.{IsGathered}
use Rattle.flush_view.specs.Symbols.{symbol_line}
use Rattle.report_text.proofs.symbols.write_metrics.Given as goal

abbrev pub invariant-loop-metric : goal.invariant-loop-metric
invariant-loop-metric g l = record {
  gathered : IsGathered (g.O.Sink.state l.fn.out) (g.O.Sink.state l.out) l.text.items
      (flat_map (λ metric. symbol_line metric.now) (take l.metric-index l.metrics));
  later : (g.O.Sink.state l.fn.out).faults ≤ (g.O.Sink.state l.out).faults;
}
