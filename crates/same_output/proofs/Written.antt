-- A run of independent files writes what a replay of them writes.
use Rattle.std.proofs.Common.{◌≡◌, ℕ, suc, false, Option, List, [], ◌∷◌, ◌++◌, map, length, refl, ap, sym, ◌∙◌, subst, arith}
use Rattle.std.specs.Prelude.{is_some}
use Rattle.std.specs.List.{AllByRecursion, flat_map, enumerate_from, zip}
use Rattle.stat_defs.specs.declared.bins.Bound.{Bound}
use Rattle.stat_defs.specs.declared.events.Event.{Event}
use Rattle.stat_defs.specs.declared.history.Verdict.{Verdict}
use Rattle.stat_defs.specs.declared.ids.Kind.TheVariants.{Histogram, Text}
use Rattle.stat_defs.specs.declared.reports.Report.{Report}
use Rattle.stat_defs.specs.declared.views.FlushView.{FlushView}
use Rattle.ledger.specs.Ledger.{RunPlan, RunLedger, ReplayLedger, AreRead, IsReportOf}
use Rattle.ledger.specs.Work.{Work, events_in, apart, together}
use Rattle.ledger.proofs.Lists.{none_of, nil_cons, cons_same, head_same, tail_same}
use Rattle.ledger.proofs.WorkLists.{lengths, zip_events}
use Rattle.flush_view.specs.Output.{ViewText, flush_sections, read_line, output}
use Rattle.flush_view.specs.Views.{has_not_gone, has_histogram_row, views}
use Rattle.flush_view.proofs.FileEvents.{files_few, AreOfFile}
use Rattle.flush_view.proofs.Recorded.{LawfulWork, apart_bounded, together_bounded}
use Rattle.all_accepted.specs.Admitted.{NamedKind, named_by}
use Rattle.same_output.specs.Independent.{AreIndependent, rules_of}
use Rattle.all_accepted.proofs.InLists.{In}
use Rattle.all_accepted.proofs.Accepted.{EventFits}
use Rattle.all_accepted.proofs.Files.{apart_events, together_events, apart_fit, together_fit, replayed}
use Rattle.all_accepted.proofs.Lines.{took_all, works_took, apart_took, together_took, lines_same}
use Rattle.all_accepted.proofs.Members.{IsUsed}
use Rattle.same_output.proofs.Moves.{Lonely, lonely}
use Rattle.all_accepted.proofs.Runs.{IsSettledReport}
use Rattle.same_output.proofs.Same.{one_view, one_p, other_p, one_before, other_before, one_view_of, other_view_of, same_names, same_counters, same_gauges}
use Rattle.same_output.proofs.Shown.{p, not_gone, histograms, histogram_passes, histogram_named}
use Rattle.same_output.proofs.TextShown.{texts, text_of_name}
use Rattle.all_accepted.proofs.Tight.{all_events, tight, tight_named}

module _ (plan : RunPlan) (events : List (List Event)) (free : AreIndependent plan events) (from : (n : NamedKind) → In free.room.names n → IsUsed plan events free.room (all_events events) n)
    (contents others : List (Option (List ℕ))) (works workers : List Work) (run replay : Report)
    (is : IsReportOf contents events plan works run) (other : IsReportOf others events plan workers replay)
    (fits : AllByRecursion (λ (work : Work). AllByRecursion (EventFits plan events free.room) (events_in work)) works)
    (other_fits : AllByRecursion (λ (work : Work). AllByRecursion (EventFits plan events free.room) (events_in work)) workers)
    (flat : flat_map events_in works ≡ all_events events) (other_flat : flat_map events_in workers ≡ all_events events)
    (alone : Lonely plan (map events_in works)) (other_alone : Lonely plan (map events_in workers))
    (lawful : AllByRecursion LawfulWork works) (other_lawful : AllByRecursion LawfulWork workers)
    (bounds : List ℕ → List Bound) where
  abbrev mine : FlushView
  mine = one_view_of plan events free from contents others works workers run replay is other fits other_fits flat other_flat bounds

  abbrev theirs : FlushView
  theirs = other_view_of plan events free from contents others works workers run replay is other fits other_fits flat other_flat bounds

  same_texts : mine.texts ≡ theirs.texts
  same_texts =
      texts plan events free from contents works run is fits flat alone bounds
      ∙ ap (λ (l : List (List ℕ)). map (text_of_name plan (all_events events)) l)
      (same_names plan events free from contents others works workers run replay is other fits other_fits flat other_flat Text
      (has_not_gone (one_before plan events free from contents others works workers run replay is other fits other_fits flat other_flat))
      (has_not_gone (other_before plan events free from contents others works workers run replay is other fits other_fits flat other_flat))
      (not_gone plan events free from contents works run is fits flat) (not_gone plan events free from others workers replay other other_fits other_flat))
      ∙ sym (texts plan events free from others workers replay other other_fits other_flat other_alone bounds)

  same_histograms : mine.histograms ≡ theirs.histograms
  same_histograms =
      histograms plan events free from contents works run is fits flat lawful bounds
      ∙ ap (λ (l : List (List ℕ)). map (histogram_named plan bounds (all_events events)) l)
      (same_names plan events free from contents others works workers run replay is other fits other_fits flat other_flat Histogram
      (has_histogram_row (one_before plan events free from contents others works workers run replay is other fits other_fits flat other_flat)
      (one_p plan events free from contents others works workers run replay is other fits other_fits flat other_flat).flush)
      (has_histogram_row (other_before plan events free from contents others works workers run replay is other fits other_fits flat other_flat)
      (other_p plan events free from contents others works workers run replay is other fits other_fits flat other_flat).flush)
      (histogram_passes plan events free from contents works run is fits flat) (histogram_passes plan events free from others workers replay other other_fits other_flat))
      ∙ sym (histograms plan events free from others workers replay other other_fits other_flat other_lawful bounds)

  same_view : mine ≡ theirs
  same_view =
      let counters = same_counters plan events free from contents others works workers run replay is other fits other_fits flat other_flat bounds in
      let gauges = same_gauges plan events free from contents others works workers run replay is other fits other_fits flat other_flat alone other_alone bounds in
      λ i. record { counters = counters i; gauges = gauges i; texts = same_texts i; histograms = same_histograms i }

  same_seen : views (rules_of plan bounds) run.log run.flushes ≡ views (rules_of plan bounds) replay.log replay.flushes
  same_seen =
      let one = one_p plan events free from contents others works workers run replay is other fits other_fits flat other_flat in
      let two = other_p plan events free from contents others works workers run replay is other fits other_fits flat other_flat in
      one_view (rules_of plan bounds) run one.flush one.flushes
      ∙ ap (λ (v : FlushView). v ∷ []) same_view
      ∙ sym (one_view (rules_of plan bounds) replay two.flush two.flushes)

  -- the outputs, where the files took effect alike
  pub same_output : (text : ViewText) → map took_all run.verdicts ≡ map took_all replay.verdicts → output text (rules_of plan bounds) false run ≡ output text (rules_of plan bounds) false replay
  same_output text took =
      let seen = same_seen in
      let none = none_of run.reads (let number = is.shown.number in let no = free.no_read in omega (arith, number, no)) in
      let none_other = none_of replay.reads (let number = other.shown.number in let no = free.no_read in omega (arith, number, no)) in
      let reads : run.reads ≡ replay.reads = none ∙ sym none_other in
      let lines = lines_same 1 run.verdicts replay.verdicts took in
      λ i. flat_map (λ (section : List ℕ). section) (flush_sections text 1 (seen i) ++ (map read_line (enumerate_from 1 (reads i)) ++ ([] ++ lines i)))

-- each worker of a run has the events of its file
apart_lists : (events : List (List Event)) (verdicts : List (List Verdict)) → lengths verdicts ≡ lengths events → map events_in (apart events verdicts) ≡ events
apart_lists [] verdicts same = refl
apart_lists (es ∷ events) [] same = absurd (nil_cons (length es) (lengths events) same)
apart_lists (es ∷ events) (vs ∷ verdicts) same =
    cons_same (events_in (zip es vs)) es (map events_in (apart events verdicts)) events
    (zip_events es vs (head_same (length vs) (length es) (lengths verdicts) (lengths events) same))
    (apart_lists events verdicts (tail_same (length vs) (length es) (lengths verdicts) (lengths events) same))

as_long : (xss : List (List Verdict)) (yss : List (List Event)) → lengths xss ≡ lengths yss → length xss ≡ length yss
as_long [] [] same = refl
as_long [] (ys ∷ yss) same = absurd (nil_cons (length ys) (lengths yss) same)
as_long (xs ∷ xss) [] same = absurd (nil_cons (length xs) (lengths xss) (sym same))
as_long (xs ∷ xss) (ys ∷ yss) same = ap suc (as_long xss yss (tail_same (length xs) (length ys) (lengths xss) (lengths yss) same))

files_lawful : (contents : List (Option (List ℕ))) (events : List (List Event)) (report : Report) → AreRead contents events report → AllByRecursion AreOfFile events
files_lawful contents events report read =
    let ends = read.an_end_each in
    let verdicts = read.verdicts_each in
    let many = as_long report.verdicts events read.a_verdict_each in
    files_few contents report.ends events (omega (arith, ends, verdicts, many)) read.read

module _ (plan : RunPlan) (events : List (List Event)) (free : AreIndependent plan events) (from : (n : NamedKind) → In free.room.names n → IsUsed plan events free.room (all_events events) n) where
  -- what workers did the events of these files
  record DidAll (works : List Work) (report : Report) : Type 0 where
    contents : List (Option (List ℕ))
    is : IsReportOf contents events plan works report
    fits : AllByRecursion (λ (work : Work). AllByRecursion (EventFits plan events free.room) (events_in work)) works
    flat : flat_map events_in works ≡ all_events events
    alone : Lonely plan (map events_in works)
    lawful : AllByRecursion LawfulWork works
    took : map took_all report.verdicts ≡ map (λ (es : List Event). map (λ (e : Event). is_some (named_by plan e)) es) events

  of_run : (contents : List (Option (List ℕ))) (report : Report) → IsReportOf contents events plan (apart events report.verdicts) report → DidAll (apart events report.verdicts) report
  of_run contents report is =
      let works : List Work = apart events report.verdicts in
      let fits = apart_fit plan events free.room report.verdicts in
      let flat = apart_events events report.verdicts is.read.a_verdict_each in
      let one : IsSettledReport plan events free.room works report = p plan events free from contents works report is fits flat in
      record {
        contents = contents;
        is = is;
        fits = fits;
        flat = flat;
        alone = subst (λ (l : List (List Event)). Lonely plan l) (sym (apart_lists events report.verdicts is.read.a_verdict_each)) (lonely plan events free.apart);
        lawful = (apart_bounded events report.verdicts (files_lawful contents events report is.read)).lawful;
        took = apart_took plan events free.room report.verdicts is.read.a_verdict_each (works_took plan events free.room _ works one.named one.taken);
      }

  of_replay : (contents : List (Option (List ℕ))) (report : Report) → IsReportOf contents events plan (together events report.verdicts) report → DidAll (together events report.verdicts) report
  of_replay contents report is =
      let works : List Work = together events report.verdicts in
      let fits = together_fit plan events free.room report.verdicts is.read.a_verdict_each in
      let flat = together_events events report.verdicts is.read.a_verdict_each in
      let one : IsSettledReport plan events free.room works report = p plan events free from contents works report is fits flat in
      record {
        contents = contents;
        is = is;
        fits = fits;
        flat = flat;
        alone = (tt, tt);
        lawful = (together_bounded events report.verdicts (files_lawful contents events report is.read)).lawful;
        took = together_took plan events free.room report.verdicts is.read.a_verdict_each (works_took plan events free.room _ works one.named one.taken);
      }

  written : (works workers : List Work) (one other : Report) → DidAll works one → DidAll workers other → (text : ViewText) (bounds : List ℕ → List Bound)
      → output text (rules_of plan bounds) false one ≡ output text (rules_of plan bounds) false other
  written works workers one other did done text bounds =
      same_output plan events free from did.contents done.contents works workers one other did.is done.is did.fits done.fits did.flat done.flat did.alone done.alone did.lawful done.lawful bounds text (did.took ∙ sym done.took)

-- the same files, with the names of their events alone
small_of : (plan : RunPlan) (events : List (List Event)) → AreIndependent plan events → AreIndependent plan events
small_of plan events all = record { room = tight plan events all.room; apart = all.apart; no_flush = all.no_flush; no_read = all.no_read }

pub outputs_same : (text : ViewText) (bounds : List ℕ → List Bound) (contents others : List (Option (List ℕ))) (events : List (List Event)) (plan : RunPlan) (run replay : Report)
    → AreIndependent plan events → RunLedger contents events plan run → ReplayLedger others events plan replay
    → output text (rules_of plan bounds) false run ≡ output text (rules_of plan bounds) false replay
unfolding small_of
outputs_same text bounds contents others events plan run replay all is other =
    let small = small_of plan events all in
    let from = tight_named plan events all.room in
    written plan events small from (apart events run.verdicts) (together events replay.verdicts) run replay (of_run plan events small from contents run is)
    (of_replay plan events small from others replay (replayed plan events all.no_flush all.no_read others replay other)) text bounds

pub runs_same : (text : ViewText) (bounds : List ℕ → List Bound) (contents others : List (Option (List ℕ))) (events : List (List Event)) (plan : RunPlan) (one other : Report)
    → AreIndependent plan events → RunLedger contents events plan one → RunLedger others events plan other
    → output text (rules_of plan bounds) false one ≡ output text (rules_of plan bounds) false other
unfolding small_of
runs_same text bounds contents others events plan one two all is other =
    let small = small_of plan events all in
    let from = tight_named plan events all.room in
    written plan events small from (apart events one.verdicts) (apart events two.verdicts) one two (of_run plan events small from contents one is) (of_run plan events small from others two other) text bounds
