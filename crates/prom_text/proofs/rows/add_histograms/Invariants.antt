use Rattle.std.proofs.Common.{◌≡◌, ◌++◌, map, take}
use Rattle.prom_text.specs.Members.{HistogramMember}
use Rattle.prom_text.specs.Rows.{member_of}
use Rattle.prom_text.proofs.rows.add_histograms.Given as goal

abbrev pub invariant-loop-row : goal.invariant-loop-row
invariant-loop-row l = map member_of l.rows.items ≡ map member_of l.fn.rows.items ++ map HistogramMember (take l.row-index l.histograms)
