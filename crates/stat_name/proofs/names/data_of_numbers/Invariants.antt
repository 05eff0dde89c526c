use Rattle.std.proofs.Common.{◌≡◌, ◌≤◌, ◌*◌, length, take}
use Rattle.stat_name.specs.StoredName.{data_of}
use Rattle.stat_name.proofs.names.data_of_numbers.Given as goal

abbrev pub invariant-loop-n : goal.invariant-loop-n
invariant-loop-n l = record {
  made : l.data.items ≡ data_of (take l.n-index l.numbers);
  short : length l.data.items ≤ 5 * l.n-index;
}
