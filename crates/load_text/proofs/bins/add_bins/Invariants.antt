use Rattle.std.proofs.Common.{◌≡◌, ◌++◌, take}
use Rattle.std.specs.List.{flat_map}
use Rattle.load_text.specs.Summary.{bin_line}
use Rattle.load_text.proofs.bins.add_bins.Given as goal

abbrev pub invariant-loop-counted : goal.invariant-loop-counted
invariant-loop-counted l = l.text.items ≡ l.fn.text.items ++ flat_map bin_line (take l.counted-index l.bins)
