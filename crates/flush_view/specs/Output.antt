-- The output of a run and of a replay. The form of its lines beginning with `#` is this project's own.
use Rattle.std.specs.Prelude.{ℕ, suc, not, Bool, true, false, if◌then◌else◌, List, [], ◌∷◌, ◌++◌, length, map, count_by}
use Rattle.std.specs.Prelude.{sum_by, codes}
use Rattle.std.specs.List.{enumerate_from, flat_map}
use Rattle.std.specs.Fmt.{decimal}
use Rattle.stat_defs.specs.declared.history.Verdict.{Verdict}
use Rattle.stat_defs.specs.declared.history.Verdict.TheVariants.{Accepted, Opened, Released, LabelTaken, NoScope}
use Rattle.stat_defs.specs.declared.history.Verdict.TheVariants.{Rejected, OverLimit, NoRoom}
use Rattle.stat_defs.specs.declared.reports.ReadRecord.{ReadRecord}
use Rattle.stat_defs.specs.declared.reports.Report.{Report}
use Rattle.stat_defs.specs.declared.views.FlushView.{FlushView}
use Rattle.book_state.specs.State.{State}
use Rattle.flush_view.specs.Views.{ViewRules, last_state, views}
use Rattle.flush_view.specs.Symbols.{live_metrics, symbol_line}

-- how a view is written, in the format that was asked for
abbrev pub ViewText : Type 0
ViewText = FlushView → List ℕ

-- `# flush K` for each flush but the last, and `# last`, each with the text of its view; k is the first one's
-- number
abbrev pub flush_sections : ViewText → ℕ → List FlushView → List (List ℕ)
flush_sections text k [] = []
flush_sections text k (last ∷ []) = codes "# last\n" ∷ text last ∷ []
flush_sections text k (view ∷ (next ∷ views)) =
    (codes "# flush " ++ (decimal k ++ codes "\n")) ∷ text view ∷ flush_sections text (suc k) (next ∷ views)

-- `# read J: C counters, U units`: the number of its counters, and the sum of their values
abbrev pub read_line : ℕ × ReadRecord → List ℕ
read_line (j, read) =
    codes "# read " ++ (decimal j
    ++ (codes ": " ++ (decimal (length read.counters)
    ++ (codes " counters, " ++ (decimal (sum_by (λ reading. reading.word) read.counters)
    ++ codes " units\n")))))

-- `# symbols` and its rows, where they were asked for
abbrev pub symbol_sections : Bool → State → List (List ℕ)
symbol_sections asked s = if asked then codes "# symbols\n" ∷ map symbol_line (live_metrics s) else []

-- an event that took effect
abbrev pub took_effect : Verdict → Bool
took_effect (Accepted id) = true
took_effect (Opened id) = true
took_effect (Released id) = true
took_effect LabelTaken = false
took_effect NoScope = false
took_effect Rejected = false
took_effect OverLimit = false
took_effect NoRoom = false

-- `# worker W: A accepted, D dropped`: how many of its events took effect, and how many did not
abbrev pub worker_line : ℕ × List Verdict → List ℕ
worker_line (w, verdicts) =
    codes "# worker " ++ (decimal w
    ++ (codes ": " ++ (decimal (count_by took_effect verdicts)
    ++ (codes " accepted, " ++ (decimal (count_by (λ v. not (took_effect v)) verdicts)
    ++ codes " dropped\n")))))

-- the sections of the output in order: flushes, readings, symbols where they were asked for, and files
abbrev pub sections : ViewText → ViewRules → Bool → Report → List (List ℕ)
sections text rules symbols report =
    flush_sections text 1 (views rules report.log report.flushes)
    ++ (map read_line (enumerate_from 1 report.reads)
    ++ (symbol_sections symbols (last_state rules.names report.log)
    ++ map worker_line (enumerate_from 1 report.verdicts)))

abbrev pub output : ViewText → ViewRules → Bool → Report → List ℕ
output text rules symbols report = flat_map (λ section. section) (sections text rules symbols report)
