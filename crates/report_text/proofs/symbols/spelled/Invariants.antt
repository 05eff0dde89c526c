use Rattle.std.proofs.Common.{◌≡◌, take}
use Rattle.stat_name.specs.StoredName.{data_of}
use Rattle.report_text.proofs.symbols.spelled.Given as goal

abbrev pub invariant-loop-number : goal.invariant-loop-number
invariant-loop-number l = l.spelled.items ≡ data_of (take l.number-index l.numbers)
