-- The text of a report in its parts.
use Rattle.std.proofs.Common.{◌≡◌, ℕ, Bool, true, false, List, [], ◌∷◌, ◌++◌, map, codes, refl, sym, ap, ◌∙◌}
use Rattle.std.specs.List.{flat_map, enumerate_from}
use Rattle.std.proofs.lemmas.List.Concat.{flat_map-append}
use Rattle.stat_defs.specs.declared.reports.Report.{Report}
use Rattle.book_state.specs.State.{State}
use Rattle.flush_view.specs.Views.{ViewRules, views, last_state}
use Rattle.flush_view.specs.Symbols.{live_metrics, symbol_line}
use Rattle.flush_view.specs.Output.{ViewText, flush_sections, read_line, symbol_sections, worker_line, output}
use Rattle.report_text.specs.Parts.{joined, flushes_text, symbols_text, text_behind}

joined_append : (one other : List (List ℕ)) → joined (one ++ other) ≡ joined one ++ joined other
joined_append one other = flat_map-append (λ (section : List ℕ). section) one other

joined_map : {X : Type 0} (line : X → List ℕ) (rows : List X) → joined (map line rows) ≡ flat_map line rows
joined_map line [] = refl
joined_map line (row ∷ rows) = ap (λ l. line row ++ l) (joined_map line rows)

joined_symbols : (asked : Bool) (s : State) → joined (symbol_sections asked s) ≡ symbols_text asked s
joined_symbols true s = ap (λ l. codes "# symbols\n" ++ l) (joined_map symbol_line (live_metrics s))
joined_symbols false s = refl

-- the output is the texts of its parts, one behind another
pub in_parts : (text : ViewText) (rules : ViewRules) (symbols : Bool) (report : Report)
    → flushes_text text rules report ++ text_behind rules symbols report ≡ output text rules symbols report
in_parts text rules symbols report =
    let flushes = flush_sections text 1 (views rules report.log report.flushes) in
    let reads = map read_line (enumerate_from 1 report.reads) in
    let rows = symbol_sections symbols (last_state rules.names report.log) in
    let workers = map worker_line (enumerate_from 1 report.verdicts) in
    sym (joined_append flushes (reads ++ (rows ++ workers))
    ∙ ap (λ l. joined flushes ++ l) (joined_append reads (rows ++ workers)
    ∙ (λ k. joined_map read_line (enumerate_from 1 report.reads) k ++ (joined_append rows workers
    ∙ (λ j. joined_symbols symbols (last_state rules.names report.log) j
    ++ joined_map worker_line (enumerate_from 1 report.verdicts) j)) k)))
