-- Lists of events that were applied to a new store, one list after another, have the report of a replay.
use Rattle.std.proofs.Common.{◌≡◌, ℕ, Option, List, [], ◌∷◌, refl, ap, sym, ◌∙◌, subst}
use Rattle.std.specs.List.{zip, flat_map}
use Rattle.stat_defs.specs.declared.configs.Config.{Config}
use Rattle.stat_defs.specs.declared.events.Event.{Event}
use Rattle.stat_defs.specs.declared.history.Verdict.{Verdict}
use Rattle.stat_defs.specs.declared.reports.LastFlush.{LastFlush}
use Rattle.stat_defs.specs.declared.reports.WorkerEnd.{WorkerEnd}
use Rattle.name_changes.specs.Changes.{names_in_log}
use Rattle.ledger.specs.Work.{Work, events_in, verdicts_in, work_of, together}
use Rattle.ledger.specs.Ledger.{AreRead, ReplayLedger, IsReportOf, last_flush_alone, plan_of}
use Rattle.ledger.proofs.WorkLists.{lengths, events_back, verdicts_back}
use Rattle.plain_store.specs.Store.{StoreHistory, new_store, Finishes}
use Rattle.replay_files.specs.Applying.{with_applied, AreApplied}
use Rattle.replay_files.specs.FileRun.{all_verdicts, report_with}
use Rattle.replay_files.proofs.OneThread.{history, swept, account, shown}

-- the events of work, and its verdicts, are the work
zipped : (work : Work) → work ≡ zip (events_in work) (verdicts_in work)
zipped [] = refl
zipped (told ∷ work) = ap (λ (l : Work). told ∷ l) (zipped work)

-- lists of events, one after another, are the work of one worker
as_together : (events : List (List Event)) (verdicts : List (List Verdict)) → lengths verdicts ≡ lengths events
    → together events verdicts ≡ zip (flat_map (λ es. es) events) (all_verdicts verdicts) ∷ []
as_together events verdicts each =
    let work : Work = flat_map work_of (zip events verdicts) in
    ap (λ (w : Work). w ∷ []) (zipped work
    ∙ ap (λ (es : List Event). zip es (verdicts_in work)) (events_back events verdicts each)
    ∙ ap (λ (vs : List Verdict). zip (flat_map (λ es. es) events) vs) (verdicts_back events verdicts each))

module _ (contents : List (Option (List ℕ))) (events : List (List Event)) (verdicts : List (List Verdict))
    (ends : List WorkerEnd) (given : LastFlush) (read : AreRead contents events (report_with verdicts ends given))
    (each : lengths verdicts ≡ lengths events) where
  abbrev all : List Event
  all = flat_map (λ es. es) events

  abbrev told : List Verdict
  told = all_verdicts verdicts

  pub applied_report : (config : Config) (store : StoreHistory) → AreApplied (new_store config) all told store
      → Finishes store given → ReplayLedger contents events (plan_of config) (report_with verdicts ends given)
  applied_report config store applied finishes =
      let at_end : Finishes (with_applied (new_store config) all told applied.entries) given =
      subst (λ (s : StoreHistory). Finishes s given) applied.applied finishes in
      subst
      (λ (workers : List Work). IsReportOf contents events (last_flush_alone (plan_of config)) workers
      (report_with verdicts ends given))
      (sym (as_together events verdicts each)) (record {
        read = read;
        history = history config all told applied.entries given at_end verdicts ends applied.a_verdict_each;
        swept = swept config all told applied.entries given at_end verdicts ends applied.mine;
        account = account config all told applied.entries given at_end verdicts ends;
        shown = shown config all told applied.entries given at_end verdicts ends;
      })

-- the names of a store that was finished are those of its log
pub applied_names : (config : Config) (events : List Event) (verdicts : List Verdict) (store : StoreHistory)
    (given : LastFlush) → AreApplied (new_store config) events verdicts store → Finishes store given
    → given.names ≡ names_in_log (plan_of config).rules 1 given.log
applied_names config events verdicts store given applied finishes =
    let at_end : Finishes (with_applied (new_store config) events verdicts applied.entries) given =
    subst (λ (s : StoreHistory). Finishes s given) applied.applied finishes in at_end.names
