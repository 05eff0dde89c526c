-- Borrowed rows of a view, as stats, and the parts in which lines are written.
use Rattle.std.specs.Prelude.{ℕ, List, ◌∷◌}
use Rattle.std.specs.List.{flat_map}
use Rattle.stat_defs.specs.declared.bins.BinCount.{BinCount}
use Rattle.text_parts.specs.Histograms.{AreHistograms}
use Rattle.admin_read.specs.declared.rows.StatRow.{StatRow}
use Rattle.admin_read.specs.declared.rows.StatRow.TheVariants.{Text, Counter, Gauge, Histogram}
use Rattle.admin_read.specs.Admin.{Stat, TextStat, CounterStat, GaugeStat, HistogramStat, quantile_part}

abbrev pub stat_of : StatRow → Stat
stat_of (Text row) = TextStat row.now
stat_of (Counter row) = CounterStat row.now
stat_of (Gauge row) = GaugeStat row.now
stat_of (Histogram row) = HistogramStat row.now

-- what is required of a view, of one of its stats
abbrev pub CanBeRead : Stat → Type 0
CanBeRead (TextStat row) = Unit {0}
CanBeRead (CounterStat row) = Unit {0}
CanBeRead (GaugeStat row) = Unit {0}
CanBeRead (HistogramStat row) = AreHistograms row

-- the parts of quantiles, each behind a space
abbrev pub spaced_parts : List BinCount → List BinCount → List ℕ → List ℕ
spaced_parts interval cumulative qs = flat_map (λ q. 32 ∷ quantile_part interval cumulative q) qs
