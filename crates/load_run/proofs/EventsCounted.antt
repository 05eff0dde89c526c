-- The events of files that took effect are counted alike in a run and in a replay.
use Rattle.std.proofs.Common.{◌≡◌, ℕ, not, Bool, Option, List, [], ◌∷◌, ◌++◌, map, length, codes, refl, ap, sym, ◌∙◌, arith}
use Rattle.std.specs.Prelude.{count_by, sum_by, is_some}
use Rattle.std.specs.Fmt.{decimal}
use Rattle.std.proofs.lemmas.List.{length-map}
use Rattle.std.proofs.lemmas.List.Sums.{sum_by-cons}
use Rattle.stat_defs.specs.declared.events.Event.{Event}
use Rattle.stat_defs.specs.declared.history.Verdict.{Verdict}
use Rattle.stat_defs.specs.declared.reports.Report.{Report}
use Rattle.book_state.proofs.Lists.{count_cons}
use Rattle.ledger.specs.Ledger.{RunPlan, RunLedger, ReplayLedger, IsReportOf}
use Rattle.ledger.specs.Work.{Work, apart, together}
use Rattle.flush_view.specs.Output.{took_effect}
use Rattle.all_accepted.specs.Admitted.{named_by}
use Rattle.all_accepted.proofs.Files.{apart_fit, together_fit, replayed}
use Rattle.all_accepted.proofs.Lines.{took_all, works_took, apart_took, together_took}
use Rattle.all_accepted.proofs.Runs.{IsSettledReport, settled_report}
use Rattle.same_output.specs.Independent.{AreIndependent}
use Rattle.load_text.specs.Summary.{events_told, accepted, dropped, events_line}

count_map : {X : Type 0} (p : X → Bool) (q : Bool → Bool) (xs : List X)
    → count_by (λ x. q (p x)) xs ≡ count_by q (map p xs)
count_map p q [] = refl
count_map p q (x ∷ xs) =
    let one = count_cons (λ y. q (p y)) x xs in
    let other = count_cons q (p x) (map p xs) in
    let rest = count_map p q xs in
    omega (arith, one, other, rest)

-- what is counted of what took effect alone
module _ (f : List Verdict → ℕ) (g : List Bool → ℕ) (each : (vs : List Verdict) → f vs ≡ g (took_all vs)) where
  sum_took : (vss : List (List Verdict)) → sum_by f vss ≡ sum_by g (map took_all vss)
  sum_took [] = refl
  sum_took (vs ∷ vss) =
      let one = sum_by-cons f vs vss in
      let other = sum_by-cons g (took_all vs) (map took_all vss) in
      let here = each vs in
      let rest = sum_took vss in
      omega (arith, one, other, here, rest)

  sum_same : (vss uss : List (List Verdict)) → map took_all vss ≡ map took_all uss → sum_by f vss ≡ sum_by f uss
  sum_same vss uss same =
      sum_took vss ∙ ap (λ (l : List (List Bool)). sum_by g l) same ∙ sym (sum_took uss)

abbrev line : ℕ → ℕ → ℕ → List ℕ
line n a d =
    codes "events " ++ (decimal n ++ (codes " accepted " ++ (decimal a ++ (codes " dropped " ++ (decimal d ++ codes "\n")))))

pub events_same : (vss uss : List (List Verdict)) → map took_all vss ≡ map took_all uss → events_line vss ≡ events_line uss
events_same vss uss same =
    let told : events_told vss ≡ events_told uss =
    sum_same (λ vs. length vs) (λ bs. length bs) (λ vs. sym (length-map vs took_effect)) vss uss same in
    let took : accepted vss ≡ accepted uss =
    sum_same (λ vs. count_by took_effect vs) (λ bs. count_by (λ b. b) bs) (λ vs. count_map took_effect (λ b. b) vs) vss uss same in
    let others : dropped vss ≡ dropped uss =
    sum_same (λ vs. count_by (λ v. not (took_effect v)) vs) (λ bs. count_by not bs) (λ vs. count_map took_effect not vs) vss uss same in
    λ i. line (told i) (took i) (others i)

module _ (plan : RunPlan) (events : List (List Event)) (free : AreIndependent plan events) where
  -- an event took effect where it names a metric
  abbrev named_each : List (List Bool)
  named_each = map (λ (es : List Event). map (λ (e : Event). is_some (named_by plan e)) es) events

  took_run : (contents : List (Option (List ℕ))) (report : Report) → RunLedger contents events plan report
      → map took_all report.verdicts ≡ named_each
  took_run contents report is =
      let works : List Work = apart events report.verdicts in
      let fits = apart_fit plan events free.room report.verdicts in
      let one : IsSettledReport plan events free.room works report =
      settled_report plan events free.room contents works report is fits free.no_flush in
      apart_took plan events free.room report.verdicts is.read.a_verdict_each
      (works_took plan events free.room _ works one.named one.taken)

  took_replay : (contents : List (Option (List ℕ))) (report : Report)
      → IsReportOf contents events plan (together events report.verdicts) report → map took_all report.verdicts ≡ named_each
  took_replay contents report is =
      let works : List Work = together events report.verdicts in
      let fits = together_fit plan events free.room report.verdicts is.read.a_verdict_each in
      let one : IsSettledReport plan events free.room works report =
      settled_report plan events free.room contents works report is fits free.no_flush in
      together_took plan events free.room report.verdicts is.read.a_verdict_each
      (works_took plan events free.room _ works one.named one.taken)

  pub took_same : (contents others : List (Option (List ℕ))) (run replay : Report) → RunLedger contents events plan run
      → ReplayLedger others events plan replay → map took_all run.verdicts ≡ map took_all replay.verdicts
  took_same contents others run replay is other =
      took_run contents run is
      ∙ sym (took_replay others replay (replayed plan events free.no_flush free.no_read others replay other))
