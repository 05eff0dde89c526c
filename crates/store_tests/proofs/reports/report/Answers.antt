use Rattle.std.proofs.Common.{◌∙◌, refl}
use Rattle.store_tests.proofs.TriedFlushes.{shows_with}
use Rattle.store_tests.proofs.reports.report.Goals as goal

pub returns : goal.returns
returns c = shows_with c.args.config.now c.in_ok-played.played _ c.in_ok-played.ensures refl (c.of-2.ensures ∙ c.in_ok-flushes.ensures)
