-- The order in which counters and gauges stand (this project's own).
use Rattle.std.specs.Prelude.{ℕ, Bool, Option, Some, None, List}
use Rattle.std.specs.Ordering.{nat_cmp, ordering_then, is_lt}
use Rattle.std.specs.Cmp.Lexicographic.{slice_cmp}
use Rattle.std.specs.List.Sorted.{IsSortedBy}
use Rattle.stat_defs.specs.declared.views.CounterRow.{CounterRow}
use Rattle.stat_defs.specs.declared.views.GaugeRow.{GaugeRow}
use Rattle.admin_read.specs.Admin.{Stat, TextStat, CounterStat, GaugeStat, HistogramStat}

abbrev pub full_name : Stat → List ℕ
full_name (TextStat row) = row.name
full_name (CounterStat row) = row.name
full_name (GaugeStat row) = row.name
full_name (HistogramStat row) = row.name

-- in the order of the text
abbrev pub stat_place : Stat → ℕ
stat_place (TextStat row) = 0
stat_place (CounterStat row) = 1
stat_place (GaugeStat row) = 2
stat_place (HistogramStat row) = 3

-- by name, and of one name by kind
abbrev pub comes_before : Stat → Stat → Bool
comes_before a b =
    is_lt (ordering_then (slice_cmp nat_cmp (full_name a) (full_name b)) (nat_cmp (stat_place a) (stat_place b)))

-- rows stand by name in byte order
abbrev pub AreCountersByName : List CounterRow → Type 0
AreCountersByName counters = IsSortedBy (λ a b. is_lt (slice_cmp nat_cmp a.name b.name)) counters

abbrev pub AreGaugesByName : List GaugeRow → Type 0
AreGaugesByName gauges = IsSortedBy (λ a b. is_lt (slice_cmp nat_cmp a.name b.name)) gauges

-- the counter or the gauge that a stat is, if it is one
abbrev pub counter_in : Stat → Option CounterRow
counter_in (TextStat row) = None
counter_in (CounterStat row) = Some row
counter_in (GaugeStat row) = None
counter_in (HistogramStat row) = None

abbrev pub gauge_in : Stat → Option GaugeRow
gauge_in (TextStat row) = None
gauge_in (CounterStat row) = None
gauge_in (GaugeStat row) = Some row
gauge_in (HistogramStat row) = None
