-- The admin text of a flush (the statistics that Envoy's admin interface shows; that a counter stands before a gauge
-- of its name, and a text as it is, is this project's own).
use Rattle.std.specs.Prelude.{ℕ, ◌*◌, ◌==◌, Bool, if◌then◌else◌, Option, Some, None, List, [], ◌∷◌, ◌++◌, map, drop}
use Rattle.std.specs.Prelude.{codes}
use Rattle.std.specs.List.{flat_map, join_by, take_while, prefix_len}
use Rattle.std.specs.Fmt.{decimal, signed_decimal}
use Rattle.std.specs.Ordering.{nat_cmp, is_le}
use Rattle.std.specs.Cmp.Lexicographic.{slice_cmp}
use Rattle.stat_defs.specs.declared.bins.BinCount.{BinCount}
use Rattle.stat_defs.specs.declared.views.CounterRow.{CounterRow}
use Rattle.stat_defs.specs.declared.views.GaugeRow.{GaugeRow}
use Rattle.stat_defs.specs.declared.views.TextRow.{TextRow}
use Rattle.stat_defs.specs.declared.views.HistRow.{HistRow}
use Rattle.stat_defs.specs.declared.views.FlushView.{FlushView}
use Rattle.loglinear_bins.specs.Counts.{total, quantile_of}
use Rattle.text_parts.specs.Decimals.{thousandths}

-- a line of the text shows a text readout, a counter's total, a gauge's value or a histogram's quantiles
pub data Stat : Type 0 where
  TextStat : TextRow → Stat
  CounterStat : CounterRow → Stat
  GaugeStat : GaugeRow → Stat
  HistogramStat : HistRow → Stat

-- a counter's name is not above a gauge's in byte order
abbrev pub stands_before : GaugeRow → CounterRow → Bool
stands_before gauge counter = is_le (slice_cmp nat_cmp counter.name gauge.name)

-- the counters from the first on whose names are not above a gauge's
abbrev pub counters_up_to : GaugeRow → List CounterRow → List CounterRow
counters_up_to gauge counters = take_while (stands_before gauge) counters

-- and those behind them
abbrev pub counters_beyond : GaugeRow → List CounterRow → List CounterRow
counters_beyond gauge counters = drop (prefix_len (stands_before gauge) counters) counters

-- counters and gauges together: before each gauge the counters up to its name, behind the last gauge the others
abbrev pub together : List CounterRow → List GaugeRow → List Stat
together counters [] = map CounterStat counters
together counters (gauge ∷ gauges) =
    map CounterStat (counters_up_to gauge counters)
    ++ (GaugeStat gauge ∷ together (counters_beyond gauge counters) gauges)

-- text readouts, then counters and gauges, then histograms
abbrev pub stats : FlushView → List Stat
stats view =
    map TextStat view.texts ++ (together view.counters view.gauges ++ map HistogramStat view.histograms)

-- `NAME: SHOWN`
abbrev pub named : List ℕ → List ℕ → List ℕ
named name shown = name ++ (codes ": " ++ (shown ++ 10 ∷ []))

-- a text in quotation marks, as it is
abbrev pub quoted : List ℕ → List ℕ
quoted text = 34 ∷ (text ++ 34 ∷ [])

-- the quantiles that are shown, in thousandths
abbrev pub quantiles : List ℕ
quantiles = 0 ∷ 250 ∷ 500 ∷ 750 ∷ 900 ∷ 950 ∷ 990 ∷ 995 ∷ 999 ∷ 1000 ∷ []

-- `P` and the quantile in hundredths, as `P99.5` for 995 thousandths
abbrev pub quantile_label : ℕ → List ℕ
quantile_label q = 80 ∷ thousandths (100 * q)

-- a value in thousandths, or `nan` where there is none
abbrev pub value_text : Option ℕ → List ℕ
value_text None = codes "nan"
value_text (Some value) = thousandths value

-- `LABEL(INTERVAL,CUMULATIVE)`
abbrev pub quantile_part : List BinCount → List BinCount → ℕ → List ℕ
quantile_part interval cumulative q =
    quantile_label q
    ++ (40 ∷ (value_text (quantile_of interval q) ++ (44 ∷ (value_text (quantile_of cumulative q) ++ 41 ∷ []))))

-- a part for each quantile, parted by spaces, where there are values
abbrev pub quantiles_text : List BinCount → List BinCount → List ℕ
quantiles_text interval cumulative =
    if total cumulative == 0 then codes "No recorded values"
    else join_by (quantile_part interval cumulative) (codes " ") quantiles

abbrev pub stat_line : Stat → List ℕ
stat_line (TextStat row) = named row.name (quoted row.text)
stat_line (CounterStat row) = named row.name (decimal row.total)
stat_line (GaugeStat row) = named row.name (signed_decimal row.value)
stat_line (HistogramStat row) = named row.name (quantiles_text row.interval row.cumulative)

abbrev pub admin_text : FlushView → List ℕ
admin_text view = flat_map stat_line (stats view)
