use Rattle.std.proofs.Common.{◌≡◌, ◌≤◌, ◌*◌, ◌-◌, ◌^◌, take, sum_by}
use Rattle.load_text.proofs.counts.units_of.Given as goal

abbrev pub invariant-loop-row : goal.invariant-loop-row
invariant-loop-row l = record {
  sum : l.units ≡ sum_by (λ row. row.total) (take l.row-index l.rows);
  fits : l.units ≤ l.row-index * (2 ^ 64 - 1);
}
