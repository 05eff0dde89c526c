use Rattle.std.proofs.Common.{sym, subst, List}
use Rattle.std.proofs.lemmas.List.Elements.{All-push}
use Rattle.std.specs.List.{All}
use Rattle.stat_defs.specs.declared.views.HistRow.{HistRow}
use Rattle.text_parts.specs.Histograms.{AreHistograms}
use Rattle.texts_bench.proofs.views.add_histograms.Goals as goal

pub loop-i-preserved : goal.loop-i-preserved
loop-i-preserved c =
    subst (λ (l : List HistRow). All AreHistograms l) (sym c.in_ok-push.ensures.items)
    (All-push AreHistograms c.loop-i.rows.items c.in_ok-histogram_of.field-0 c.loop-i.invariant c.in_ok-histogram_of.ensures)
