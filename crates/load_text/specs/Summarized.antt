-- What is written of the report of a load. This project's own.
use Rattle.std.specs.Prelude.{◌≡◌, ◌≤◌, ℕ, List}
use Rattle.stat_defs.specs.declared.configs.Config.{Config}
use Rattle.stat_defs.specs.declared.reports.Report.{Report}
use Rattle.stat_defs.specs.declared.views.FlushView.{FlushView}
use Rattle.loglinear_bins.specs.declared.place.TheConstants.{MAX_COUNT}
use Rattle.flush_view.specs.Views.{IsView}
use Rattle.load_text.specs.Summary.{summary, values_of}

-- all histograms of a report's first flush have together no more values than are counted
abbrev pub HasRoom : Config → Report → Type 0
HasRoom config report = (shown : FlushView) → IsView config report 0 shown → values_of shown.histograms ≤ MAX_COUNT

-- the text tells a report of so many scripts of so many events: their verdicts, and what the first flush shows
pub record IsSummaryOf (config : Config) (scripts n : ℕ) (report : Report) (text : List ℕ) : Type 0 where
  pub shown : FlushView
  pub is_view : IsView config report 0 shown
  pub text_is : text ≡ summary scripts n report.verdicts shown
