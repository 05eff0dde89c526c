use Rattle.stat_name.proofs.Reading.{ReadSoFar}
use Rattle.stat_name.proofs.numbers.take_number.Given as goal

abbrev pub invariant-loop-i : goal.invariant-loop-i
invariant-loop-i l = ReadSoFar l.bytes l.i l.sum l.scale
