-- What every list of bins in a view is, where its text is written. This project's own.
use Rattle.std.specs.Prelude.{◌≤◌, List}
use Rattle.std.specs.List.{All}
use Rattle.stat_defs.specs.declared.bins.BinCount.{BinCount}
use Rattle.stat_defs.specs.declared.views.HistRow.{HistRow}
use Rattle.stat_defs.specs.declared.views.FlushView.{FlushView}
use Rattle.loglinear_bins.specs.declared.place.TheConstants.{MAX_COUNT}
use Rattle.loglinear_bins.specs.Counts.{IsBinList, total}

-- rising bins, none of them empty, of no more values than are counted
pub record IsHistogram (counts : List BinCount) : Type 0 where
  pub bins : IsBinList counts
  pub limit : total counts ≤ MAX_COUNT

-- the values since the flush before, and all values so far
pub record AreHistograms (row : HistRow) : Type 0 where
  pub interval : IsHistogram row.interval
  pub cumulative : IsHistogram row.cumulative

-- the condition of writing a view
abbrev pub HasHistograms : FlushView → Type 0
HasHistograms view = All AreHistograms view.histograms
