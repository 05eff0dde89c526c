use Rattle.std.proofs.Common.{◌≡◌, ◌≤◌, ◌+◌, drop, take}
use Rattle.loglinear_bins.specs.declared.place.TheConstants.{MAX_COUNT}
use Rattle.loglinear_bins.specs.Counts.{total}
use Rattle.load_text.specs.Summary.{all_bins, values_of}
use Rattle.load_text.proofs.bins.all_bins.Given as goal

abbrev pub invariant-loop-row : goal.invariant-loop-row
invariant-loop-row l = record {
  bins : l.all ≡ all_bins (take l.row-index l.rows);
  room : total l.all + values_of (drop l.row-index l.rows) ≤ MAX_COUNT;
}
