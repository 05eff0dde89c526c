use Rattle.std.proofs.Common.{◌≡◌, ◌≤◌, ℕ, List, ◌++◌, map, drop}
use Rattle.std.specs.List.{flat_map}
use Rattle.text_parts.specs.Gathered.{IsGathered}
use Rattle.admin_read.specs.Admin.{stat_line}
use Rattle.admin_read.specs.Rows.{stat_of}
use Rattle.admin_read.proofs.write_rows.Given as goal

abbrev pub invariant-loop-row : goal.invariant-loop-row
invariant-loop-row g l = record {
  done : List ℕ;
  gathered : IsGathered (g.O.Sink.state l.fn.out) (g.O.Sink.state l.out) l.text.items done;
  rest : done ++ flat_map stat_line (map stat_of (drop l.row-index l.rows)) ≡ flat_map stat_line (map stat_of l.rows);
  later : (g.O.Sink.state l.fn.out).faults ≤ (g.O.Sink.state l.out).faults;
}
