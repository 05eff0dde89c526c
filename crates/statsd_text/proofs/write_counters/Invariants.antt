use Rattle.std.proofs.Common.{◌≤◌, take}
use Rattle.std.specs.List.{flat_map}
use Rattle.text_parts.specs.Gathered.{IsGathered}
use Rattle.statsd_text.specs.Parts.{shown_counter}
use Rattle.statsd_text.proofs.write_counters.Given as goal

abbrev pub invariant-loop-row : goal.invariant-loop-row
invariant-loop-row g l = record {
  gathered : IsGathered (g.O.Sink.state l.fn.out) (g.O.Sink.state l.out) l.text.items
      (flat_map (shown_counter l.prefix) (take l.row-index l.rows));
  later : (g.O.Sink.state l.fn.out).faults ≤ (g.O.Sink.state l.out).faults;
}
