use Rattle.std.proofs.Common.{◌≡◌, ◌≤◌, ◌*◌, ◌-◌, ◌^◌, take, sum_by}
use Rattle.report_text.proofs.readings.units_of.Given as goal

abbrev pub invariant-loop-reading : goal.invariant-loop-reading
invariant-loop-reading l = record {
  sum : l.units ≡ sum_by (λ reading. reading.word) (take l.reading-index l.readings);
  fits : l.units ≤ l.reading-index * (2 ^ 64 - 1);
}
