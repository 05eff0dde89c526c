use Rattle.std.proofs.Common.{◌≡◌, ◌≤◌, ℕ, List, ◌++◌, map, drop, None}
use Rattle.std.specs.Option.{option_map}
use Rattle.text_parts.specs.Gathered.{IsGathered}
use Rattle.prom_text.specs.Rows.{member_of, text_from}
use Rattle.prom_text.proofs.write_rows.Given as goal

abbrev pub invariant-loop-row : goal.invariant-loop-row
invariant-loop-row g l = record {
  done : List ℕ;
  gathered : IsGathered (g.O.Sink.state l.fn.out) (g.O.Sink.state l.out) l.text.items done;
  rest : done ++ text_from (option_map member_of l.before) (map member_of (drop l.row-index l.rows)) ≡ text_from None (map member_of l.rows);
  later : (g.O.Sink.state l.fn.out).faults ≤ (g.O.Sink.state l.out).faults;
}
