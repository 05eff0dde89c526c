use Rattle.std.proofs.Common.{◌+◌, ◌≡◌, ◌≤◌, ◌++◌, length, take}
use Rattle.stat_name.specs.Spelling.{spelling}
use Rattle.stat_name.proofs.numbers.put_number.Given as goal

abbrev pub invariant-loop-left : goal.invariant-loop-left
invariant-loop-left l = record {
  room : l.len + length (spelling l.left) ≤ 5;
  size : length l.groups ≡ 5;
  written : take l.len l.groups ++ spelling l.left ≡ spelling l.n;
}

abbrev pub decreases-loop-left : goal.decreases-loop-left
decreases-loop-left l = l.left
