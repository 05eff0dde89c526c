-- The parts of a report's text, as they are written one behind another.
use Rattle.std.specs.Prelude.{ℕ, Bool, if◌then◌else◌, Option, Some, None, List, [], ◌++◌, codes}
use Rattle.std.specs.List.{enumerate_from, flat_map}
use Rattle.std.specs.Fmt.{decimal}
use Rattle.stat_defs.specs.declared.history.Verdict.{Verdict}
use Rattle.stat_defs.specs.declared.metrics.Metric.{Metric}
use Rattle.stat_defs.specs.declared.reports.ReadRecord.{ReadRecord}
use Rattle.stat_defs.specs.declared.reports.Report.{Report}
use Rattle.stat_defs.specs.declared.views.FlushView.{FlushView}
use Rattle.book_state.specs.State.{State}
use Rattle.flush_view.specs.Views.{ViewRules, last_state, views}
use Rattle.flush_view.specs.Symbols.{live_metrics, symbol_line, kind_word, mode_told}
use Rattle.flush_view.specs.Output.{ViewText, flush_sections, read_line, worker_line}

-- sections one behind another
abbrev pub joined : List (List ℕ) → List ℕ
joined sections = flat_map (λ section. section) sections

-- the line above the text of a view: the last one's, or the one with its flush's number
abbrev pub flush_head : ℕ → Bool → List ℕ
flush_head k last = if last then codes "# last\n" else codes "# flush " ++ (decimal k ++ codes "\n")

-- what is written of a flush that shows this; nothing where there is none
abbrev pub flush_text : ViewText → ℕ → Bool → Option FlushView → List ℕ
flush_text text k last None = []
flush_text text k last (Some view) = flush_head k last ++ text view

abbrev pub flushes_text : ViewText → ViewRules → Report → List ℕ
flushes_text text rules report = joined (flush_sections text 1 (views rules report.log report.flushes))

abbrev pub reads_text : List ReadRecord → List ℕ
reads_text reads = flat_map read_line (enumerate_from 1 reads)

abbrev pub symbol_rows : State → List ℕ
symbol_rows s = codes "# symbols\n" ++ flat_map symbol_line (live_metrics s)

abbrev pub symbols_text : Bool → State → List ℕ
symbols_text asked s = if asked then symbol_rows s else []

abbrev pub workers_text : List (List Verdict) → List ℕ
workers_text lists = flat_map worker_line (enumerate_from 1 lists)

-- what stands behind the flushes
abbrev pub text_behind : ViewRules → Bool → Report → List ℕ
text_behind rules symbols report =
    reads_text report.reads
    ++ (symbols_text symbols (last_state rules.names report.log) ++ workers_text report.verdicts)

-- the words of a metric's line before its stored name
abbrev pub metric_words : Metric → List ℕ
metric_words metric =
    metric.name
    ++ (codes " " ++ (kind_word metric.kind ++ (codes " " ++ (mode_told metric.kind metric.mode ++ codes " "))))
