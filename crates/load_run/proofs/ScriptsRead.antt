-- The workers of a run of scripts read the scripts' events.
use Rattle.std.proofs.Common.{◌≡◌, ◌≢◌, ◌≤◌, ◌+◌, ℕ, zero, suc, Option, Some, Ok, Err, List, [], ◌∷◌, length, map, refl, sym, ap, ◌∙◌, subst, arith}
use Rattle.std.specs.Prelude.{All, IfOk}
use Rattle.std.specs.List.{range_with_len, zip, AllByRecursion, AllZip}
use Rattle.std.specs.declared.result.Result.{Result}
use Rattle.std.proofs.lemmas.List.{length-map}
use Rattle.std.proofs.lemmas.List.Elements.{All-from_recursion}
use Rattle.std.proofs.lemmas.List.FromFn.{length-map-range_with_len}
use Rattle.stat_defs.specs.Faults.{Rose}
use Rattle.stat_defs.specs.declared.configs.Config.{Config}
use Rattle.stat_defs.specs.declared.events.Event.{Event}
use Rattle.stat_defs.specs.declared.history.Verdict.{Verdict}
use Rattle.stat_defs.specs.declared.memory.NoMemory.{NoMemory}
use Rattle.stat_defs.specs.declared.reports.FileEnd.{FileEnd}
use Rattle.stat_defs.specs.declared.reports.FileEnd.TheVariants.{Whole, BadLine, LineTooLong, TooBig, TooMany}
use Rattle.stat_defs.specs.declared.reports.FileEnd.TheVariants.{ReadFault, NotOpened}
use Rattle.stat_defs.specs.declared.reports.Report.{Report}
use Rattle.stat_defs.specs.declared.reports.Reported.{Reported}
use Rattle.stat_defs.specs.declared.reports.WorkerEnd.{WorkerEnd}
use Rattle.event_script.specs.FileEvents.{AreEventsOf}
use Rattle.event_script.specs.Script.{File}
use Rattle.event_script.proofs.OneReading.{file_single}
use Rattle.file_reading.specs.SourceRead.{IsSourceRead}
use Rattle.ledger.specs.Ledger.{RunLedger, AreRead, plan_of, HasNames}
use Rattle.ledger.proofs.Lists.{cons_same}
use Rattle.load_scripts.specs.declared.limits.TheConstants.{MAX_SCRIPTS, MAX_SCRIPT_EVENTS}
use Rattle.load_scripts.specs.Load.{script_events, script_text, scripts, script_texts}
use Rattle.load_scripts.proofs.Files.{script_is_file}
use Rattle.script_source.specs.Sources.{as_source}
use Rattle.worker_run.specs.declared.given.Given.{Given}
use Rattle.worker_run.specs.declared.given.Given.TheVariants.{Opened}
use Rattle.worker_run.specs.Working.{IsFileRead}
use Rattle.run_files.specs.Run.{IsRunOfGiven, content_of}
use Rattle.load_run.specs.LoadRun.{IsLoadRunOf}
use Rattle.load_run.specs.Files.{script_files}

-- the bytes of a whole file have one list of events and one end
of_bytes : (text bytes : List ℕ) (events wanted : List Event) (end : FileEnd) → text ≡ bytes → File bytes events end
    → File text wanted Whole → (events ≡ wanted) × (end ≡ Whole)
of_bytes text bytes events wanted end same file whole =
    file_single text events wanted end Whole (subst (λ (bs : List ℕ). File bs events end) (sym same) file) whole

-- and so has what was read of it, where it was opened and no read failed
of_told : (text : List ℕ) (end : FileEnd) (taken : ℕ) (events wanted : List Event) → end ≢ ReadFault → end ≢ NotOpened
    → AreEventsOf (Some text) end taken events → File text wanted Whole → (events ≡ wanted) × (end ≡ Whole)
of_told text Whole taken events wanted read opened is whole = of_bytes text is.0 events wanted Whole is.1 is.2 whole
of_told text TooBig taken events wanted read opened is whole = of_bytes text is.0 events wanted TooBig is.1 is.2 whole
of_told text TooMany taken events wanted read opened is whole = of_bytes text is.0 events wanted TooMany is.1 is.2 whole
of_told text (BadLine k) taken events wanted read opened is whole =
    of_bytes text is.0 events wanted (BadLine k) is.1 is.2 whole
of_told text (LineTooLong k) taken events wanted read opened is whole =
    of_bytes text is.0 events wanted (LineTooLong k) is.1 is.2 whole
of_told text ReadFault taken events wanted read opened is whole = absurd (read refl)
of_told text NotOpened taken events wanted read opened is whole = absurd (opened refl)

-- a source whose count stays 0 has no read fault
never_rose : (before after : ℕ) → before ≡ 0 → after ≡ 0 → Rose before after → ⊥
never_rose before after from to rose = omega arith

-- a script that was read gave its events, and it is whole
script_read : (script n : ℕ) (events : List Event) (end : WorkerEnd) → script ≤ MAX_SCRIPTS → n ≤ MAX_SCRIPT_EVENTS
    → IsSourceRead as_source (script_text script n) events end → (events ≡ script_events script n) × (end.end ≡ Whole)
script_read script n events end few short is =
    of_told (script_text script n) end.end end.taken events (script_events script n)
    (λ fault. never_rose end.faults_before end.faults_after is.count_before is.count_after (is.rose fault)) is.opened
    is.is_run (script_is_file script n few short)

-- the scripts from this number on
module _ (n : ℕ) (short : n ≤ MAX_SCRIPT_EVENTS) where
  abbrev from : ℕ → ℕ → List (Given (List ℕ))
  from first count = map (λ script. Opened (script_text script n)) (range_with_len first count)

  abbrev events_from : ℕ → ℕ → List (List Event)
  events_from first count = map (λ script. script_events script n) (range_with_len first count)

  scripts_read : (first count : ℕ) (ends : List WorkerEnd) (events : List (List Event)) → first + count ≤ MAX_SCRIPTS + 1
      → length ends ≡ count → length events ≡ count
      → AllZip (λ file told. IsFileRead as_source file told.1 told.0) (from first count) (zip ends events)
      → events ≡ events_from first count
  scripts_read first zero ends [] few many each read = refl
  scripts_read first zero ends (es ∷ events) few many each read = absurd (omega (arith, each))
  scripts_read first (suc count) [] events few many each read = absurd (omega (arith, many))
  scripts_read first (suc count) (end ∷ ends) [] few many each read = absurd (omega (arith, each))
  scripts_read first (suc count) (end ∷ ends) (es ∷ events) few many each read =
      cons_same es (script_events first n) events (events_from (first + 1) count)
      (script_read first n es end (omega (arith, few)) short read.0).0
      (scripts_read (first + 1) count ends events (omega (arith, few)) (omega (arith, many)) (omega (arith, each)) read.1)

  ends_whole : (first count : ℕ) (ends : List WorkerEnd) (events : List (List Event)) → first + count ≤ MAX_SCRIPTS + 1
      → length ends ≡ count → length events ≡ count
      → AllZip (λ file told. IsFileRead as_source file told.1 told.0) (from first count) (zip ends events)
      → AllByRecursion (λ end. end.end ≡ Whole) ends
  ends_whole first zero [] events few many each read = tt
  ends_whole first zero (end ∷ ends) events few many each read = absurd (omega (arith, many))
  ends_whole first (suc count) [] events few many each read = tt
  ends_whole first (suc count) (end ∷ ends) [] few many each read = absurd (omega (arith, each))
  ends_whole first (suc count) (end ∷ ends) (es ∷ events) few many each read = (
    (script_read first n es end (omega (arith, few)) short read.0).1,
    ends_whole (first + 1) count ends events (omega (arith, few)) (omega (arith, many)) (omega (arith, each)) read.1,
  )

  texts_told : (ids : List ℕ) → map (content_of as_source) (map (λ script. Opened (script_text script n)) ids)
      ≡ map (λ script. Some (script_text script n)) ids
  texts_told [] = refl
  texts_told (script ∷ ids) = ap (λ (l : List (Option (List ℕ))). Some (script_text script n) ∷ l) (texts_told ids)

-- as many lists as have these lengths
as_many : (xss : List (List Verdict)) (yss : List (List Event)) → map (λ xs. length xs) xss ≡ map (λ ys. length ys) yss
    → length xss ≡ length yss
as_many xss yss same =
    sym (length-map xss (λ (xs : List Verdict). length xs)) ∙ ap (λ (l : List ℕ). length l) same
    ∙ length-map yss (λ (ys : List Event). length ys)

module _ (config : Config) (count n : ℕ) (report : Report) (few : count ≤ MAX_SCRIPTS) (short : n ≤ MAX_SCRIPT_EVENTS)
    (is : IsRunOfGiven as_source config (script_files count n) report) where
  read : AreRead (map (content_of as_source) (script_files count n)) is.events report
  read = is.ledger.read

  texts : map (content_of as_source) (script_files count n) ≡ script_texts count n
  texts = texts_told n short (range_with_len 1 count)

  as_many_ends : length report.ends ≡ count
  as_many_ends = read.an_end_each ∙ (ap (λ (l : List (Option (List ℕ))). length l) texts
      ∙ length-map-range_with_len (λ script. Some (script_text script n)) 1 count)

  as_many_lists : length is.events ≡ count
  as_many_lists = sym (as_many report.verdicts is.events read.a_verdict_each)
      ∙ (read.verdicts_each ∙ (sym read.an_end_each ∙ as_many_ends))

  load_run_is : IsLoadRunOf config count n report
  load_run_is =
      let same = scripts_read n short 1 count report.ends is.events (omega (arith, few)) as_many_ends as_many_lists is.read in
      subst (λ (contents : List (Option (List ℕ))). RunLedger contents (scripts count n) (plan_of config) report) texts
      (subst (λ (l : List (List Event)). RunLedger (map (content_of as_source) (script_files count n)) l (plan_of config)
      report) same is.ledger)

  ends_are_whole : AllByRecursion (λ end. end.end ≡ Whole) report.ends
  ends_are_whole =
      ends_whole n short 1 count report.ends is.events (omega (arith, few)) as_many_ends as_many_lists is.read

pub as_many_files : (count n : ℕ) (files : List (Given (List ℕ))) → files ≡ script_files count n → length files ≡ count
as_many_files count n files are =
    ap (λ (l : List (Given (List ℕ))). length l) are
    ∙ length-map-range_with_len (λ script. Opened (script_text script n)) 1 count

module _ (config : Config) (count n : ℕ) (files : List (Given (List ℕ))) (are : files ≡ script_files count n) where
  module _ (few : count ≤ MAX_SCRIPTS) (short : n ≤ MAX_SCRIPT_EVENTS) where
    pub load_run_told : (result : Result Reported NoMemory)
        → IfOk result (λ made. IsRunOfGiven as_source config files made.report)
        → IfOk result (λ made. IsLoadRunOf config count n made.report)
    load_run_told (Ok made) is =
        load_run_is config count n made.report few short
        (subst (λ (l : List (Given (List ℕ))). IsRunOfGiven as_source config l made.report) are is)
    load_run_told (Err refused) is = tt

    pub load_ends_told : (result : Result Reported NoMemory)
        → IfOk result (λ made. IsRunOfGiven as_source config files made.report)
        → IfOk result (λ made. All (λ end. end.end ≡ Whole) made.report.ends)
    load_ends_told (Ok made) is =
        All-from_recursion (λ end. end.end ≡ Whole) made.report.ends (ends_are_whole config count n made.report few short
        (subst (λ (l : List (Given (List ℕ))). IsRunOfGiven as_source config l made.report) are is))
    load_ends_told (Err refused) is = tt

  pub load_names_told : (result : Result Reported NoMemory)
      → IfOk result (HasNames (plan_of config).rules (length files))
      → IfOk result (HasNames (plan_of config).rules count)
  load_names_told result has =
      subst (λ (workers : ℕ). IfOk result (HasNames (plan_of config).rules workers)) (as_many_files count n files are) has
