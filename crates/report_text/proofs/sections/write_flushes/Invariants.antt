use Rattle.std.proofs.Common.{◌≡◌, ◌≤◌, ℕ, suc, true, List, ◌++◌, drop}
use Rattle.stats_io.specs.Push.{WritesWhole}
use Rattle.flush_view.specs.Output.{flush_sections}
use Rattle.flush_view.specs.Views.{view_rules, views}
use Rattle.report_text.specs.ReportText.{view_text}
use Rattle.report_text.specs.Parts.{joined, flushes_text}
use Rattle.report_text.proofs.sections.write_flushes.Given as goal

abbrev pub invariant-loop-at : goal.invariant-loop-at
invariant-loop-at g l = record {
  config : l.views.config ≡ l.fn.views.config;
  report : l.views.report ≡ l.fn.views.report;
  given : l.views.given ≡ l.at;
  whole : l.views.whole ≡ true;
  done : List ℕ;
  written : WritesWhole (g.O.Sink.state l.fn.out) (g.O.Sink.state l.out) done;
  rest : done ++ joined (flush_sections (view_text l.prefix l.format) (suc l.at)
      (drop l.at (views (view_rules l.fn.views.config) l.fn.views.report.log l.fn.views.report.flushes)))
      ≡ flushes_text (view_text l.prefix l.format) (view_rules l.fn.views.config) l.fn.views.report;
  later : (g.O.Sink.state l.fn.out).faults ≤ (g.O.Sink.state l.out).faults;
}
