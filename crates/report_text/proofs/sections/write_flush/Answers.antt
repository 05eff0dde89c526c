use Rattle.std.proofs.Common.{sym, ◌∙◌}
use Rattle.report_text.proofs.Shown.{has_histograms}
use Rattle.report_text.proofs.sections.write_flush.Goals as goal

pub write_section-requires : goal.write_section-requires
write_section-requires g c =
    has_histograms c.args.views.now c.in-Some.view c.requires.showable (sym c.in_ok-view.ensures.shown ∙ c.in-Some.is)
