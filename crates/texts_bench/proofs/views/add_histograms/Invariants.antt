use Rattle.std.specs.List.{All}
use Rattle.text_parts.specs.Histograms.{AreHistograms}
use Rattle.texts_bench.proofs.views.add_histograms.Given as goal

abbrev pub invariant-loop-i : goal.invariant-loop-i
invariant-loop-i l = All AreHistograms l.rows.items
