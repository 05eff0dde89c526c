use Rattle.std.proofs.Common.{◌≡◌, map, drop}
use Rattle.std.specs.Ordering.{nat_cmp}
use Rattle.std.specs.Cmp.Lexicographic.{slice_cmp}
use Rattle.prom_text.specs.Labels.{printed_byte}
use Rattle.prom_text.proofs.labels.compare_printed.Given as goal

abbrev pub invariant-loop-i : goal.invariant-loop-i
invariant-loop-i l =
    slice_cmp nat_cmp (map printed_byte (drop l.i l.a)) (map printed_byte (drop l.i l.b))
    ≡ slice_cmp nat_cmp (map printed_byte l.a) (map printed_byte l.b)
