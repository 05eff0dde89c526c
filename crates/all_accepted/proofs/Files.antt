-- The workers of a run and the worker of a replay did the events of the files.
use Rattle.std.proofs.Common.{◌≡◌, ℕ, List, [], ◌∷◌, length, append-nil, refl, sym, ◌∙◌, subst, Option}
use Rattle.std.specs.List.{AllByRecursion, flat_map, zip}
use Rattle.stat_defs.specs.declared.events.Event.{Event}
use Rattle.stat_defs.specs.declared.history.Verdict.{Verdict}
use Rattle.stat_defs.specs.declared.reports.Report.{Report}
use Rattle.ledger.specs.Ledger.{RunPlan, IsReportOf, ReplayLedger, last_flush_alone}
use Rattle.ledger.specs.Work.{Work, events_in, work_of, apart, together}
use Rattle.ledger.proofs.Lists.{nil_cons, head_same, tail_same, both_appended}
use Rattle.ledger.proofs.WorkLists.{lengths, zip_events, events_back}
use Rattle.all_accepted.specs.Admitted.{HasRoomForAll}
use Rattle.all_accepted.proofs.InLists.{all_joined}
use Rattle.all_accepted.proofs.Accepted.{EventFits, all_fit, works_fit}
use Rattle.all_accepted.proofs.Tight.{all_events}

pub apart_events : (events : List (List Event)) (verdicts : List (List Verdict)) → lengths verdicts ≡ lengths events → flat_map events_in (apart events verdicts) ≡ all_events events
apart_events [] verdicts same = refl
apart_events (es ∷ events) [] same = absurd (nil_cons (length es) (lengths events) same)
apart_events (es ∷ events) (vs ∷ verdicts) same =
    both_appended (events_in (zip es vs)) es (flat_map events_in (apart events verdicts)) (all_events events)
    (zip_events es vs (head_same (length vs) (length es) (lengths verdicts) (lengths events) same))
    (apart_events events verdicts (tail_same (length vs) (length es) (lengths verdicts) (lengths events) same))

pub together_events : (events : List (List Event)) (verdicts : List (List Verdict)) → lengths verdicts ≡ lengths events → flat_map events_in (together events verdicts) ≡ all_events events
together_events events verdicts same = append-nil (events_in (flat_map work_of (zip events verdicts))) ∙ events_back events verdicts same

all_flat : {X : Type 0} (P : X → Type 0) (xss : List (List X)) → AllByRecursion (λ xs. AllByRecursion P xs) xss → AllByRecursion P (flat_map (λ (xs : List X). xs) xss)
all_flat P [] all = tt
all_flat {X} P (xs ∷ xss) all = all_joined P xs (flat_map (λ (ys : List X). ys) xss) all.0 (all_flat P xss all.1)

module _ (plan : RunPlan) (events : List (List Event)) (room : HasRoomForAll plan events) where
  abbrev Fit : List Work → Type 0
  Fit works = AllByRecursion (λ (work : Work). AllByRecursion (EventFits plan events room) (events_in work)) works

  pub apart_fit : (verdicts : List (List Verdict)) → Fit (apart events verdicts)
  apart_fit verdicts = works_fit plan events room events verdicts (all_fit plan events room events room.no_scopes room.all_named)

  pub together_fit : (verdicts : List (List Verdict)) → lengths verdicts ≡ lengths events → Fit (together events verdicts)
  together_fit verdicts same = (
    subst (λ (es : List Event). AllByRecursion (EventFits plan events room) es) (sym (events_back events verdicts same))
        (all_flat (EventFits plan events room) events (all_fit plan events room events room.no_scopes room.all_named)),
    tt,
  )

-- a plan of one flush and no reading is that of a replay
pub alone : (plan : RunPlan) → plan.flushes ≡ 0 → plan.reads ≡ 0 → last_flush_alone plan ≡ plan
alone plan no_flush no_read = λ i. record { rules = plan.rules; scopes = plan.scopes; flushes = sym no_flush i; reads = sym no_read i }

pub replayed : (plan : RunPlan) (events : List (List Event)) → plan.flushes ≡ 0 → plan.reads ≡ 0
    → (others : List (Option (List ℕ))) (report : Report) → ReplayLedger others events plan report → IsReportOf others events plan (together events report.verdicts) report
replayed plan events no_flush no_read others report is = subst (λ (q : RunPlan). IsReportOf others events q (together events report.verdicts) report) (alone plan no_flush no_read) is
