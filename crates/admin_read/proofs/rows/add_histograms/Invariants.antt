use Rattle.std.proofs.Common.{◌≡◌, ◌++◌, map, take}
use Rattle.admin_read.specs.Admin.{HistogramStat}
use Rattle.admin_read.specs.Rows.{stat_of}
use Rattle.admin_read.proofs.rows.add_histograms.Given as goal

abbrev pub invariant-loop-row : goal.invariant-loop-row
invariant-loop-row l = map stat_of l.rows.items ≡ map stat_of l.fn.rows.items ++ map HistogramStat (take l.row-index l.histograms)
