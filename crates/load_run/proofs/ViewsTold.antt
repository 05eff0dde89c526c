-- What is told of a run of scripts is what is told of a replay of them.
use Rattle.std.proofs.Common.{◌≡◌, ℕ, false, Some, List, [], ◌∷◌, ◌++◌, map, length, codes, ap, sym, ◌∙◌, arith}
use Rattle.std.specs.List.{enumerate_from, flat_map}
use Rattle.std.proofs.lemmas.List.{append_cancel_left, append_cancel_right}
use Rattle.stat_defs.specs.declared.history.Entry.{Entry}
use Rattle.stat_defs.specs.declared.reports.FlushRecord.{FlushRecord}
use Rattle.stat_defs.specs.declared.reports.Report.{Report}
use Rattle.stat_defs.specs.declared.views.FlushView.{FlushView}
use Rattle.tag_rules.specs.Bounds.{bounds_for}
use Rattle.book_state.proofs.Lists.{some_same}
use Rattle.ledger.specs.Ledger.{RunPlan, plan_of}
use Rattle.flush_view.specs.Output.{ViewText, flush_sections, read_line, worker_line, output}
use Rattle.flush_view.specs.Views.{ViewRules, view, view_of, view_rules, views}
use Rattle.same_output.specs.Independent.{SameOutput, AreIndependent}
use Rattle.load_scripts.specs.Load.{script_texts, scripts}
use Rattle.load_text.specs.Summary.{head_line, view_lines}
use Rattle.load_run.specs.Laws.{SameSummary}
use Rattle.load_run.proofs.GaugesApart.{independent}
use Rattle.load_run.proofs.EventsCounted.{events_same, took_same}

-- a report with one flush has the view of that alone
one_view : (rules : ViewRules) (log : List Entry) (flushes : List FlushRecord) (shown : FlushView) → length flushes ≡ 1
    → view rules log flushes 0 ≡ Some shown → views rules log flushes ≡ shown ∷ []
one_view rules log [] shown one is = absurd (omega (arith, one))
one_view rules log (flush ∷ []) shown one is =
    ap (λ (v : FlushView). v ∷ []) (some_same (view_of rules log flush (flush ∷ [])) shown is)
one_view rules log (flush ∷ (next ∷ flushes)) shown one is = absurd (omega (arith, one))

-- what is written behind the views
abbrev rest_of : Report → List ℕ
rest_of report =
    flat_map (λ (section : List ℕ). section)
    (map read_line (enumerate_from 1 report.reads) ++ ([] ++ map worker_line (enumerate_from 1 report.verdicts)))

written : (text : ViewText) (rules : ViewRules) (report : Report) (shown : FlushView)
    → views rules report.log report.flushes ≡ shown ∷ []
    → output text rules false report ≡ codes "# last\n" ++ (text shown ++ rest_of report)
written text rules report shown is =
    ap (λ (vs : List FlushView). flat_map (λ (section : List ℕ). section)
    (flush_sections text 1 vs
    ++ (map read_line (enumerate_from 1 report.reads) ++ ([] ++ map worker_line (enumerate_from 1 report.verdicts))))) is

-- where two reports write the same in every format, each format writes the same of their views
module _ (rules : ViewRules) (run replay : Report) (shown other : FlushView)
    (is : views rules run.log run.flushes ≡ shown ∷ []) (are : views rules replay.log replay.flushes ≡ other ∷ [])
    (same : (text : ViewText) → output text rules false run ≡ output text rules false replay) where
  behind : (text : ViewText) → text shown ++ rest_of run ≡ text other ++ rest_of replay
  behind text =
      append_cancel_left (codes "# last\n") (text shown ++ rest_of run) (text other ++ rest_of replay)
      (sym (written text rules run shown is) ∙ same text ∙ written text rules replay other are)

  -- a format that writes nothing leaves what is behind the views
  rest_same : rest_of run ≡ rest_of replay
  rest_same = behind (λ v. [])

  view_same : (text : ViewText) → text shown ≡ text other
  view_same text =
      append_cancel_right (text shown) (text other) (rest_of run)
      (behind text ∙ ap (λ (l : List ℕ). text other ++ l) (sym rest_same))

pub summaries_same : SameOutput → SameSummary
summaries_same outputs config count n run replay shown other no_flush no_read few is are view_is view_are =
    let plan : RunPlan = plan_of config in
    let rules : ViewRules = view_rules config in
    let free : AreIndependent plan (scripts count n) = independent config count n no_flush no_read few in
    let flushes = is.swept.number in
    let others = are.swept.number in
    let events = events_same run.verdicts replay.verdicts
    (took_same plan (scripts count n) free (script_texts count n) (script_texts count n) run replay is are) in
    let lines = view_same rules run replay shown other
    (one_view rules run.log run.flushes shown (omega (arith, flushes, no_flush)) view_is)
    (one_view rules replay.log replay.flushes other (omega (arith, others)) view_are)
    (λ text. outputs.replayed text (bounds_for config.buckets) (script_texts count n) (script_texts count n)
    (scripts count n) plan run replay free is are) view_lines in
    λ i. head_line count n ++ (events i ++ lines i)
