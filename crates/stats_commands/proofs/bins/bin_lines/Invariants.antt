use Rattle.std.proofs.Common.{◌≡◌, take}
use Rattle.stats_commands.specs.BinLines.{bin_lines}
use Rattle.stats_commands.proofs.bins.bin_lines.Given as goal

abbrev pub invariant-loop-value : goal.invariant-loop-value
invariant-loop-value l = l.text.items ≡ bin_lines (take l.value-index l.values)
