-- The steps in which rows are listed and written, and what holds of each of them.
use Rattle.std.proofs.Common.{◌≡◌, ℕ, suc, ◌+◌, ◌<◌, ◌≤◌, List, [], ◌∷◌, ◌++◌, length, get_or, map, drop, sym, ap, ◌∙◌, subst, append_assoc, append-nil, add-one}
use Rattle.std.proofs.Math.Seq.{drop-cons}
use Rattle.std.proofs.lemmas.List.{drop_all}
use Rattle.std.proofs.lemmas.List.Elements.{All-from_recursion, recursion_from_All}
use Rattle.std.specs.List.{All, AllByRecursion, flat_map, take_while, prefix_len}
use Rattle.stat_defs.specs.declared.views.CounterRow.{CounterRow}
use Rattle.stat_defs.specs.declared.views.GaugeRow.{GaugeRow}
use Rattle.stat_defs.specs.declared.views.TextRow.{TextRow}
use Rattle.stat_defs.specs.declared.views.HistRow.{HistRow}
use Rattle.stat_defs.specs.declared.views.FlushView.{FlushView}
use Rattle.text_parts.specs.Histograms.{AreHistograms, HasHistograms}
use Rattle.text_parts.proofs.Rising.{all_joined}
use Rattle.admin_read.specs.declared.rows.StatRow.{StatRow}
use Rattle.admin_read.specs.Admin.{Stat, TextStat, CounterStat, GaugeStat, HistogramStat, stands_before, together, stats, stat_line}
use Rattle.admin_read.specs.Rows.{stat_of, CanBeRead}

-- the lines of the rows from a place on are that of its row and those of the rows behind it
pub rest_next : (rows : List StatRow) (i : ℕ) (row : StatRow) (done whole : List ℕ) → i < length rows → row ≡ get_or rows i row
    → done ++ flat_map stat_line (map stat_of (drop i rows)) ≡ whole
    → (done ++ stat_line (stat_of row)) ++ flat_map stat_line (map stat_of (drop (i + 1) rows)) ≡ whole
rest_next rows i row done whole h is e =
    let next : drop i rows ≡ row ∷ drop (i + 1) rows =
    drop-cons rows i row h ∙ ap (λ (x : StatRow). x ∷ drop (suc i) rows) (sym is) ∙ ap (λ n. row ∷ drop n rows) (sym (add-one i)) in
    append_assoc done (stat_line (stat_of row)) (flat_map stat_line (map stat_of (drop (i + 1) rows)))
    ∙ ap (λ (l : List StatRow). done ++ flat_map stat_line (map stat_of l)) (sym next) ∙ e

-- no line is left behind the last row
pub rest_none : (rows : List StatRow) (i : ℕ) (done whole : List ℕ) → length rows ≤ i
    → done ++ flat_map stat_line (map stat_of (drop i rows)) ≡ whole → done ≡ whole
rest_none rows i done whole h e =
    sym (append-nil done) ∙ ap (λ (l : List StatRow). done ++ flat_map stat_line (map stat_of l)) (sym (drop_all i rows h)) ∙ e

texts_can : (rows : List TextRow) → AllByRecursion CanBeRead (map TextStat rows)
texts_can [] = tt
texts_can (row ∷ rows) = (tt, texts_can rows)

counters_can : (rows : List CounterRow) → AllByRecursion CanBeRead (map CounterStat rows)
counters_can [] = tt
counters_can (row ∷ rows) = (tt, counters_can rows)

together_can : (counters : List CounterRow) (gauges : List GaugeRow) → AllByRecursion CanBeRead (together counters gauges)
together_can counters [] = counters_can counters
together_can counters (gauge ∷ gauges) =
    let others : List CounterRow = drop (prefix_len (stands_before gauge) counters) counters in
    all_joined CanBeRead (map CounterStat (take_while (stands_before gauge) counters)) (GaugeStat gauge ∷ together others gauges)
    (counters_can (take_while (stands_before gauge) counters)) (tt, together_can others gauges)

histograms_can : (rows : List HistRow) → AllByRecursion AreHistograms rows → AllByRecursion CanBeRead (map HistogramStat rows)
histograms_can [] a = tt
histograms_can (row ∷ rows) a = (a.0, histograms_can rows a.1)

all_of_rows : (rows : List StatRow) → AllByRecursion CanBeRead (map stat_of rows) → AllByRecursion (λ row. CanBeRead (stat_of row)) rows
all_of_rows [] a = tt
all_of_rows (row ∷ rows) a = (a.0, all_of_rows rows a.1)

-- what holds of a view's histograms holds of its rows
pub rows_can : (view : FlushView) (rows : List StatRow) → HasHistograms view → map stat_of rows ≡ stats view
    → All (λ row. CanBeRead (stat_of row)) rows
rows_can view rows h e =
    let numeric = together view.counters view.gauges in
    let each : AllByRecursion CanBeRead (stats view) =
    all_joined CanBeRead (map TextStat view.texts) (numeric ++ map HistogramStat view.histograms) (texts_can view.texts)
    (all_joined CanBeRead numeric (map HistogramStat view.histograms) (together_can view.counters view.gauges)
    (histograms_can view.histograms (recursion_from_All AreHistograms view.histograms h))) in
    All-from_recursion (λ row. CanBeRead (stat_of row)) rows
    (all_of_rows rows (subst (λ (l : List Stat). AllByRecursion CanBeRead l) (sym e) each))
