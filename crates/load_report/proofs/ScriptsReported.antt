-- Scripts that were applied have the report of their events.
use Rattle.std.proofs.Common.{◌≡◌, ◌≤◌, ◌+◌, ◌*◌, ℕ, zero, suc, Result, Ok, Err, IfOk, Some, List, [], ◌∷◌, map, length, refl, ap, sym, ◌∙◌, subst, arith}
use Rattle.std.specs.List.{zip, flat_map, range_with_len, AllZip, AllByRecursion}
use Rattle.std.proofs.lemmas.Nat.{mul-le}
use Rattle.std.proofs.lemmas.List.{length-map, length-replicate}
use Rattle.std.proofs.lemmas.List.FromFn.{length-map-range_with_len}
use Rattle.stat_defs.specs.declared.configs.Config.{Config}
use Rattle.stat_defs.specs.declared.events.Event.{Event}
use Rattle.stat_defs.specs.declared.history.Verdict.{Verdict}
use Rattle.stat_defs.specs.declared.memory.NoMemory.{NoMemory}
use Rattle.stat_defs.specs.declared.reports.LastFlush.{LastFlush}
use Rattle.stat_defs.specs.declared.reports.Report.{Report}
use Rattle.stat_defs.specs.declared.reports.Reported.{Reported}
use Rattle.stat_defs.specs.declared.reports.WorkerEnd.{WorkerEnd}
use Rattle.event_script.specs.FileEvents.{AreEventsOf}
use Rattle.load_scripts.specs.declared.limits.TheConstants.{MAX_SCRIPTS, MAX_SCRIPT_EVENTS}
use Rattle.load_scripts.specs.Load.{script_events, script_text, scripts, script_texts}
use Rattle.load_scripts.proofs.Files.{script_is_file}
use Rattle.plain_store.specs.declared.worker.TheConstants.{MAX_EVENTS}
use Rattle.ledger.specs.Work.{Work, events_in, verdicts_in, work_of, together}
use Rattle.ledger.specs.Ledger.{TakenAtFault, AreRead, IsReportOf, HasNames, last_flush_alone, plan_of}
use Rattle.ledger.proofs.WorkLists.{lengths, events_back, verdicts_back}
use Rattle.plain_store.specs.Store.{StoreHistory, new_store, Finishes}
use Rattle.replay_files.specs.Applying.{with_applied, AreApplied}
use Rattle.replay_files.specs.FileRun.{all_verdicts, report_with, reported_with}
use Rattle.replay_files.proofs.AppliedReport.{applied_report, applied_names}
use Rattle.load_report.specs.LoadRun.{all_script_events, AreScriptsApplied, whole_end, script_ends}
use Rattle.load_report.specs.LoadReport.{IsLoadOf}

-- the limits leave room for all scripts in a new store
pub room_for_all : (config : Config) (first : StoreHistory) (count n : ℕ) → first ≡ new_store config
    → count ≤ MAX_SCRIPTS → n ≤ MAX_SCRIPT_EVENTS → length first.worker.events + count * n ≤ MAX_EVENTS
room_for_all config first count n new few small =
    let none : length first.worker.events ≡ 0 = ap (λ (s : StoreHistory). length s.worker.events) new in
    let room = mul-le count n MAX_SCRIPTS MAX_SCRIPT_EVENTS few small in omega (arith, none, room)

-- each script from this one on is a whole file of its events
are_files : (n first count : ℕ) → n ≤ MAX_SCRIPT_EVENTS → first + count ≤ MAX_SCRIPTS + 1
    → AllZip (λ content file. AreEventsOf content file.0.end file.0.taken file.1)
    (map (λ script. Some (script_text script n)) (range_with_len first count))
    (zip (script_ends count) (map (λ script. script_events script n) (range_with_len first count)))
are_files n first zero small few = tt
are_files n first (suc count) small few = (
  (script_text first n, refl, script_is_file first n (omega (arith, few)) small),
  are_files n (first + 1) count small (omega (arith, few)),
)

none_taken : (count : ℕ) → AllByRecursion (λ end. TakenAtFault end.end end.taken) (script_ends count)
none_taken zero = tt
none_taken (suc count) = (refl, none_taken count)

module _ (count n : ℕ) (verdicts : List (List Verdict)) (given : LastFlush) where
  abbrev report : Report
  report = report_with verdicts (script_ends count) given

  many_texts : length (script_texts count n) ≡ count
  many_texts = length-map-range_with_len (λ (script : ℕ). Some (script_text script n)) 1 count

  many_scripts : length (scripts count n) ≡ count
  many_scripts = length-map-range_with_len (λ (script : ℕ). script_events script n) 1 count

  read : lengths verdicts ≡ lengths (scripts count n) → count ≤ MAX_SCRIPTS → n ≤ MAX_SCRIPT_EVENTS
      → AreRead (script_texts count n) (scripts count n) report
  read each few small = record {
    an_end_each = length-replicate count whole_end ∙ sym many_texts;
    verdicts_each = sym (length-map verdicts (λ (vs : List Verdict). length vs))
        ∙ ap (λ (l : List ℕ). length l) each ∙ length-map (scripts count n) (λ (es : List Event). length es)
        ∙ many_scripts ∙ sym many_texts;
    a_verdict_each = each;
    read = are_files n 1 count small (omega (arith, few));
    counted = none_taken count;
  }

  -- the report of a store that all events of the scripts were applied to
  is_load : (config : Config) (store : StoreHistory) → count ≤ MAX_SCRIPTS → n ≤ MAX_SCRIPT_EVENTS
      → AreScriptsApplied (new_store config) count n verdicts store → Finishes store given
      → IsLoadOf config count n report
  is_load config store few small are finishes =
      applied_report (script_texts count n) (scripts count n) verdicts (script_ends count) given
      (read are.a_verdict_each few small) are.a_verdict_each config store are.are_applied finishes

  pub reported : (config : Config) (first store : StoreHistory) (ends : List WorkerEnd) → count ≤ MAX_SCRIPTS
      → n ≤ MAX_SCRIPT_EVENTS → first ≡ new_store config → AreScriptsApplied first count n verdicts store
      → Finishes store given → ends ≡ script_ends count → (answer : Result Reported NoMemory)
      → IfOk answer (λ made. made ≡ reported_with verdicts ends given)
      → IfOk answer (λ made. IsLoadOf config count n made.report)
  reported config first store ends few small new are finishes ended (Ok made) is =
      subst (λ (m : Reported). IsLoadOf config count n m.report)
      (sym (is ∙ ap (λ (es : List WorkerEnd). reported_with verdicts es given) ended))
      (is_load config store few small
      (subst (λ (s : StoreHistory). AreScriptsApplied s count n verdicts store) new are) finishes)
  reported config first store ends few small new are finishes ended (Err fault) is = tt

  pub ends_told : (ends : List WorkerEnd) → ends ≡ script_ends count → (answer : Result Reported NoMemory)
      → IfOk answer (λ made. made ≡ reported_with verdicts ends given)
      → IfOk answer (λ made. made.report.ends ≡ script_ends count)
  ends_told ends ended (Ok made) is = ap (λ (m : Reported). m.report.ends) is ∙ ended
  ends_told ends ended (Err fault) is = tt

  pub with_names : (config : Config) (first store : StoreHistory) (ends : List WorkerEnd) → first ≡ new_store config
      → AreScriptsApplied first count n verdicts store → Finishes store given → (answer : Result Reported NoMemory)
      → IfOk answer (λ made. made ≡ reported_with verdicts ends given)
      → IfOk answer (HasNames (plan_of config).rules 1)
  with_names config first store ends new are finishes (Ok made) is =
      let scripts_are = subst (λ (s : StoreHistory). AreScriptsApplied s count n verdicts store) new are in
      subst (HasNames (plan_of config).rules 1) (sym is)
      (applied_names config _ (all_verdicts verdicts) store given scripts_are.are_applied finishes)
  with_names config first store ends new are finishes (Err fault) is = tt
