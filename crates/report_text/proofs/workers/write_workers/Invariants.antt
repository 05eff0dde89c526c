use Rattle.std.proofs.Common.{◌≤◌, take}
use Rattle.std.specs.List.{flat_map, enumerate_from}
use Rattle.text_parts.specs.Gathered.{IsGathered}
use Rattle.flush_view.specs.Output.{worker_line}
use Rattle.report_text.proofs.workers.write_workers.Given as goal

abbrev pub invariant-loop-at : goal.invariant-loop-at
invariant-loop-at g l = record {
  gathered : IsGathered (g.O.Sink.state l.fn.out) (g.O.Sink.state l.out) l.text.items
      (flat_map worker_line (take l.at (enumerate_from 1 l.lists)));
  later : (g.O.Sink.state l.fn.out).faults ≤ (g.O.Sink.state l.out).faults;
}
