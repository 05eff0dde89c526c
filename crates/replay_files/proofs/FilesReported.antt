-- Files that were read and applied have the report of their events.
use Rattle.std.proofs.Common.{◌≡◌, ℕ, suc, Option, Result, Ok, Err, IfOk, List, [], ◌∷◌, map, length, refl, ap, sym, ◌∙◌, subst}
use Rattle.std.specs.List.{zip, flat_map, AllZip, AllByRecursion}
use Rattle.std.proofs.lemmas.List.{length-map}
use Rattle.std.proofs.lemmas.List.Folds.{flat_map-map}
use Rattle.stat_defs.specs.declared.configs.Config.{Config}
use Rattle.stat_defs.specs.declared.events.Event.{Event}
use Rattle.stat_defs.specs.declared.history.Verdict.{Verdict}
use Rattle.stat_defs.specs.declared.reports.FileEnd.{FileEnd}
use Rattle.stat_defs.specs.declared.reports.FileEnd.TheVariants.{Whole, BadLine, LineTooLong, TooBig, TooMany, ReadFault, NotOpened}
use Rattle.stat_defs.specs.declared.reports.LastFlush.{LastFlush}
use Rattle.stat_defs.specs.declared.memory.NoMemory.{NoMemory}
use Rattle.stat_defs.specs.declared.reports.Reported.{Reported}
use Rattle.stat_defs.specs.declared.reports.WorkerEnd.{WorkerEnd}
use Rattle.stats_io.specs.States.{SourceState, ShelfState}
use Rattle.event_script.specs.FileEvents.{AreEventsOf}
use Rattle.ledger.specs.Work.{Work, events_in, verdicts_in, work_of, together}
use Rattle.ledger.specs.Ledger.{TakenAtFault, AreRead, ReplayLedger, IsReportOf, HasNames, last_flush_alone, plan_of}
use Rattle.ledger.proofs.WorkLists.{lengths, events_back, verdicts_back}
use Rattle.plain_store.specs.Store.{StoreHistory, new_store, Finishes}
use Rattle.file_reading.specs.WorkerEnd.{HasCause}
use Rattle.file_reading.specs.FileRead.{FileRead, AreFiles, all_events}
use Rattle.replay_files.specs.Applying.{with_applied, AreApplied}
use Rattle.replay_files.specs.FileRun.{all_verdicts, report_with, reported_with, AreRuns}
use Rattle.replay_files.specs.ReplayReport.{IsReplayOf}
use Rattle.replay_files.specs.declared.reading.Runs.{Runs}
use Rattle.replay_files.proofs.AppliedReport.{applied_report, applied_names}

-- the events of each file
abbrev pub events_of : List FileRead → List (List Event)
events_of files = map (λ file. file.events) files

-- how each file ended
abbrev pub ends_of : List FileRead → List WorkerEnd
ends_of files = map (λ file. file.end) files

module _ {F S : Type 0} (shelf : F → ShelfState) (source : S → SourceState) (holds : List ℕ → Option (List ℕ)) where
  -- bytes are counted at a read fault alone
  taken_of : (name : List ℕ) (before after : ShelfState) (worker : WorkerEnd) (end : FileEnd)
      → HasCause source (holds name) name before after worker end → TakenAtFault end worker.taken
  taken_of name before after worker Whole cause = cause.taken
  taken_of name before after worker (BadLine n) cause = cause.taken
  taken_of name before after worker (LineTooLong n) cause = cause.taken
  taken_of name before after worker TooBig cause = cause.taken
  taken_of name before after worker TooMany cause = cause.taken
  taken_of name before after worker ReadFault cause = tt
  taken_of name before after worker NotOpened cause = cause.taken

  as_many_files : (names : List (List ℕ)) (before after : F) (files : List FileRead)
      → AreFiles shelf source holds names before after files → length files ≡ length names
  as_many_files [] before after [] are = refl
  as_many_files [] before after (f ∷ fs) are = absurd are
  as_many_files (n ∷ ns) before after [] are = absurd are
  as_many_files (n ∷ ns) before after (f ∷ fs) are = ap suc (as_many_files ns are.0 after fs are.1.1)

  -- each file was read, so its events are those of what its name holds
  pub runs_of : (names : List (List ℕ)) (before after : F) (files : List FileRead)
      → AreFiles shelf source holds names before after files
      → AllZip (λ content file. AreEventsOf content file.0.end file.0.taken file.1) (map holds names)
      (zip (ends_of files) (events_of files))
  runs_of [] before after [] are = tt
  runs_of [] before after (f ∷ fs) are = absurd are
  runs_of (n ∷ ns) before after [] are = absurd are
  runs_of (n ∷ ns) before after (f ∷ fs) are = (are.1.0.run, runs_of ns are.0 after fs are.1.1)

  -- no file but one that ended by a read fault has its bytes counted
  pub counted_of : (names : List (List ℕ)) (before after : F) (files : List FileRead)
      → AreFiles shelf source holds names before after files
      → AllByRecursion (λ end. TakenAtFault end.end end.taken) (ends_of files)
  counted_of [] before after [] are = tt
  counted_of [] before after (f ∷ fs) are = absurd are
  counted_of (n ∷ ns) before after [] are = absurd are
  counted_of (n ∷ ns) before after (f ∷ fs) are = (
    taken_of n (shelf before) (shelf are.0) f.end f.end.end are.1.0.cause,
    counted_of ns are.0 after fs are.1.1,
  )

  module _ (names : List (List ℕ)) (before after : F) (files : List FileRead) (verdicts : List (List Verdict))
      (are : AreFiles shelf source holds names before after files) (each : lengths verdicts ≡ lengths (events_of files))
    where
      read : (given : LastFlush)
          → AreRead (map holds names) (events_of files) (report_with verdicts (ends_of files) given)
      read given =
          let contents : length files ≡ length (map holds names) =
          as_many_files names before after files are ∙ sym (length-map names holds) in
          record {
            an_end_each = length-map files (λ (file : FileRead). file.end) ∙ contents;
            verdicts_each = sym (length-map verdicts (λ (vs : List Verdict). length vs))
                ∙ ap (λ (l : List ℕ). length l) each
                ∙ length-map (events_of files) (λ (es : List Event). length es)
                ∙ length-map files (λ (file : FileRead). file.events) ∙ contents;
            a_verdict_each = each;
            read = runs_of names before after files are;
            counted = counted_of names before after files are;
          }

      -- the report of a store that all events of the files were applied to
      pub is_ledger : (config : Config) (store : StoreHistory) (given : LastFlush)
          → AreApplied (new_store config) (all_events files) (all_verdicts verdicts) store → Finishes store given
          → ReplayLedger (map holds names) (events_of files) (plan_of config)
          (report_with verdicts (ends_of files) given)
      is_ledger config store given applied finishes =
          let same : flat_map (λ (es : List Event). es) (events_of files) ≡ all_events files =
          flat_map-map (λ (es : List Event). es) (λ (file : FileRead). file.events) files in
          applied_report (map holds names) (events_of files) verdicts (ends_of files) given (read given) each config store
          (subst (λ (es : List Event). AreApplied (new_store config) es (all_verdicts verdicts) store) (sym same) applied)
          finishes

  -- so the files that were read and applied have it
  is_replay : (names : List (List ℕ)) (before after : F) (config : Config) (store : StoreHistory) (runs : Runs)
      (given : LastFlush) → AreRuns shelf source holds names before after (new_store config) store runs
      → Finishes store given
      → IsReplayOf shelf source holds config names before after (report_with runs.verdicts.items runs.ends.items given)
  is_replay names before after config store runs given are finishes =
      let verdicts : List (List Verdict) = runs.verdicts.items in
      subst
      (λ (ends : List WorkerEnd). IsReplayOf shelf source holds config names before after
      (report_with verdicts ends given))
      (sym are.ends_are) (record {
        files = are.files;
        are_files = are.are_files;
        ends = refl;
        ledger = is_ledger names before after are.files verdicts are.are_files are.a_verdict_each config store given
            are.are_applied finishes;
      })

  pub reported : (names : List (List ℕ)) (before after : F) (config : Config) (first store : StoreHistory)
      (runs : Runs) (given : LastFlush) → first ≡ new_store config
      → AreRuns shelf source holds names before after first store runs → Finishes store given
      → (answer : Result Reported NoMemory)
      → IfOk answer (λ made. made ≡ reported_with runs.verdicts.items runs.ends.items given)
      → IfOk answer (λ made. IsReplayOf shelf source holds config names before after made.report)
  reported names before after config first store runs given new are finishes (Ok made) is =
      subst (λ (m : Reported). IsReplayOf shelf source holds config names before after m.report) (sym is)
      (is_replay names before after config store runs given
      (subst (λ (s : StoreHistory). AreRuns shelf source holds names before after s store runs) new are) finishes)
  reported names before after config first store runs given new are finishes (Err fault) is = tt

  -- and they come with the names in their log
  pub with_names : (names : List (List ℕ)) (before after : F) (config : Config) (first store : StoreHistory)
      (runs : Runs) (given : LastFlush) → first ≡ new_store config
      → AreRuns shelf source holds names before after first store runs → Finishes store given
      → (answer : Result Reported NoMemory)
      → IfOk answer (λ made. made ≡ reported_with runs.verdicts.items runs.ends.items given)
      → IfOk answer (HasNames (plan_of config).rules 1)
  with_names names before after config first store runs given new are finishes (Ok made) is =
      let runs_are = subst (λ (s : StoreHistory). AreRuns shelf source holds names before after s store runs) new are in
      subst (HasNames (plan_of config).rules 1) (sym is)
      (applied_names config (all_events runs_are.files) (all_verdicts runs.verdicts.items) store given
      runs_are.are_applied finishes)
  with_names names before after config first store runs given new are finishes (Err fault) is = tt
