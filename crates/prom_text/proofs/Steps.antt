-- The steps in which members are written, and what holds of each of them.
use Rattle.std.proofs.Common.{◌≡◌, ℕ, suc, ◌+◌, ◌<◌, ◌≤◌, Option, Some, None, List, [], ◌∷◌, ◌++◌, length, get_or, map, drop, sym, ap, ◌∙◌, subst, append_assoc, append-nil, add-one}
use Rattle.std.proofs.Math.Seq.{drop-cons}
use Rattle.std.proofs.lemmas.List.{drop_all}
use Rattle.std.proofs.lemmas.List.Elements.{All-from_recursion, recursion_from_All}
use Rattle.std.specs.List.{All, AllByRecursion}
use Rattle.stat_defs.specs.declared.views.CounterRow.{CounterRow}
use Rattle.stat_defs.specs.declared.views.GaugeRow.{GaugeRow}
use Rattle.stat_defs.specs.declared.views.HistRow.{HistRow}
use Rattle.stat_defs.specs.declared.views.FlushView.{FlushView}
use Rattle.text_parts.specs.Histograms.{AreHistograms, HasHistograms}
use Rattle.text_parts.proofs.Rising.{all_joined}
use Rattle.prom_text.specs.declared.rows.Row.{Row}
use Rattle.prom_text.specs.Members.{Member, CounterMember, GaugeMember, HistogramMember, members, is_before, in_order}
use Rattle.prom_text.specs.Prometheus.{HasHistogram, prom_text}
use Rattle.prom_text.specs.Rows.{member_of, member_text, text_from}
use Rattle.prom_text.proofs.Groups.{text_of_groups}
use Rattle.prom_text.proofs.Order.{all_in_order}

pub rest_next : (before : Option Member) (rows : List Row) (i : ℕ) (row : Row) (done whole : List ℕ) → i < length rows
    → row ≡ get_or rows i row → done ++ text_from before (map member_of (drop i rows)) ≡ whole
    → (done ++ member_text before (member_of row)) ++ text_from (Some (member_of row)) (map member_of (drop (i + 1) rows)) ≡ whole
rest_next before rows i row done whole h is e =
    let next : drop i rows ≡ row ∷ drop (i + 1) rows =
    drop-cons rows i row h ∙ ap (λ (x : Row). x ∷ drop (suc i) rows) (sym is) ∙ ap (λ n. row ∷ drop n rows) (sym (add-one i)) in
    append_assoc done (member_text before (member_of row)) (text_from (Some (member_of row)) (map member_of (drop (i + 1) rows)))
    ∙ ap (λ (l : List Row). done ++ text_from before (map member_of l)) (sym next) ∙ e

-- nothing is left behind the last row
pub rest_none : (before : Option Member) (rows : List Row) (i : ℕ) (done whole : List ℕ) → length rows ≤ i
    → done ++ text_from before (map member_of (drop i rows)) ≡ whole → done ≡ whole
rest_none before rows i done whole h e =
    sym (append-nil done) ∙ ap (λ (l : List Row). done ++ text_from before (map member_of l)) (sym (drop_all i rows h)) ∙ e

no_counter_has : (rows : List CounterRow) → AllByRecursion HasHistogram (map CounterMember rows)
no_counter_has [] = tt
no_counter_has (row ∷ rows) = (tt, no_counter_has rows)

no_gauge_has : (rows : List GaugeRow) → AllByRecursion HasHistogram (map GaugeMember rows)
no_gauge_has [] = tt
no_gauge_has (row ∷ rows) = (tt, no_gauge_has rows)

histograms_have : (rows : List HistRow) → AllByRecursion AreHistograms rows
    → AllByRecursion HasHistogram (map HistogramMember rows)
histograms_have [] a = tt
histograms_have (row ∷ rows) a = (a.0.cumulative, histograms_have rows a.1)

all_of_rows : (rows : List Row) → AllByRecursion HasHistogram (map member_of rows)
    → AllByRecursion (λ row. HasHistogram (member_of row)) rows
all_of_rows [] a = tt
all_of_rows (row ∷ rows) a = (a.0, all_of_rows rows a.1)

-- what holds of a view's histograms holds of the rows in order
pub rows_have : (view : FlushView) (rows : List Row) → HasHistograms view
    → map member_of rows ≡ in_order is_before (members view) → All (λ row. HasHistogram (member_of row)) rows
rows_have view rows h e =
    let each : AllByRecursion HasHistogram (members view) =
    all_joined HasHistogram (map CounterMember view.counters) (map GaugeMember view.gauges ++ map HistogramMember view.histograms)
    (no_counter_has view.counters)
    (all_joined HasHistogram (map GaugeMember view.gauges) (map HistogramMember view.histograms) (no_gauge_has view.gauges)
    (histograms_have view.histograms (recursion_from_All AreHistograms view.histograms h))) in
    All-from_recursion (λ row. HasHistogram (member_of row)) rows
    (all_of_rows rows (subst (λ (l : List Member). AllByRecursion HasHistogram l) (sym e)
    (all_in_order is_before HasHistogram (members view) each)))

-- the rows in order give the text
pub text_of_rows : (view : FlushView) (rows : List Row) → map member_of rows ≡ in_order is_before (members view)
    → text_from None (map member_of rows) ≡ prom_text view
text_of_rows view rows e = ap (λ (l : List Member). text_from None l) e ∙ text_of_groups (in_order is_before (members view))
