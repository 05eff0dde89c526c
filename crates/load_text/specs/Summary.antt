-- What a load writes of its report. This project's own; the bins are those of circllhist.
use Rattle.std.specs.Prelude.{ℕ, not, List, [], ◌++◌, codes, length, fold, sum_by, count_by}
use Rattle.std.specs.List.{flat_map}
use Rattle.std.specs.Fmt.{decimal, signed_decimal}
use Rattle.std.specs.Int.{w64, cast_unsigned}
use Rattle.stat_defs.specs.declared.bins.BinCount.{BinCount}
use Rattle.stat_defs.specs.declared.history.Verdict.{Verdict}
use Rattle.stat_defs.specs.declared.views.GaugeRow.{GaugeRow}
use Rattle.stat_defs.specs.declared.views.HistRow.{HistRow}
use Rattle.stat_defs.specs.declared.views.FlushView.{FlushView}
use Rattle.loglinear_bins.specs.Counts.{merged, total}
use Rattle.flush_view.specs.Output.{took_effect}

-- all events, those that took effect, and the others
abbrev pub events_told : List (List Verdict) → ℕ
events_told verdicts = sum_by length verdicts

abbrev pub accepted : List (List Verdict) → ℕ
accepted verdicts = sum_by (λ of_script. count_by took_effect of_script) verdicts

abbrev pub dropped : List (List Verdict) → ℕ
dropped verdicts = sum_by (λ of_script. count_by (λ v. not (took_effect v)) of_script) verdicts

-- the units of all counters
abbrev pub units_of : FlushView → ℕ
units_of view = sum_by (λ row. row.total) view.counters

-- the words of all gauges, in two's complement
abbrev pub word_in : GaugeRow → ℕ
word_in row = cast_unsigned w64 row.value

abbrev pub words_of : FlushView → ℕ
words_of view = sum_by word_in view.gauges

-- the bins of all histograms together
abbrev pub all_bins : List HistRow → List BinCount
all_bins rows = fold (λ bins row. merged bins row.cumulative) [] rows

-- `WORD N OTHER M`
abbrev pub pair_line : List ℕ → ℕ → List ℕ → ℕ → List ℕ
pair_line word n other m =
    word ++ (codes " " ++ (decimal n ++ (codes " " ++ (other ++ (codes " " ++ (decimal m ++ codes "\n"))))))

-- `# load W E`
abbrev pub head_line : ℕ → ℕ → List ℕ
head_line scripts n = codes "# load " ++ (decimal scripts ++ (codes " " ++ (decimal n ++ codes "\n")))

-- `events N accepted A dropped D`
abbrev pub events_line : List (List Verdict) → List ℕ
events_line verdicts =
    codes "events " ++ (decimal (events_told verdicts)
    ++ (codes " accepted " ++ (decimal (accepted verdicts)
    ++ (codes " dropped " ++ (decimal (dropped verdicts) ++ codes "\n")))))

-- `bin VAL EXP COUNT`
abbrev pub bin_line : BinCount → List ℕ
bin_line c =
    codes "bin " ++ (decimal c.bin.val ++ (codes " " ++ (signed_decimal c.bin.exp ++ (codes " " ++ (decimal c.count ++ codes "\n")))))

-- how many histograms there are and how many values they hold, and each bin of all of them, rising
abbrev pub histogram_lines : List HistRow → List ℕ
histogram_lines rows =
    pair_line (codes "histograms") (length rows) (codes "values") (total (all_bins rows))
    ++ flat_map bin_line (all_bins rows)

-- how many counters and gauges there are and what they hold, and the histograms
abbrev pub view_lines : FlushView → List ℕ
view_lines view =
    pair_line (codes "counters") (length view.counters) (codes "units") (units_of view)
    ++ (pair_line (codes "gauges") (length view.gauges) (codes "sum") (words_of view)
    ++ histogram_lines view.histograms)

-- what is written of so many scripts of so many events, with these verdicts, whose last flush shows this
abbrev pub summary : ℕ → ℕ → List (List Verdict) → FlushView → List ℕ
summary scripts n verdicts view = head_line scripts n ++ (events_line verdicts ++ view_lines view)

-- the values of all histograms
abbrev pub values_of : List HistRow → ℕ
values_of rows = sum_by (λ row. total row.cumulative) rows
