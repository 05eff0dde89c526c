-- A call in which nothing went wrong has status 0, or memory was wanting.
use Rattle.std.proofs.Common.{◌≡◌, ◌≢◌, ◌≤◌, ◌⊎◌, ℕ, true, false, Option, Some, None, Ok, Err, List, [], ◌∷◌, codes, length, length-append, map, refl, sym, ap, ◌∙◌, subst, inl, inr, arith}
use Rattle.std.specs.List.{AllByRecursion}
use Rattle.std.specs.Option.{option_and_then}
use Rattle.std.specs.Io.KnownBytes.{Consumes}
use Rattle.stat_defs.specs.Faults.{Rose}
use Rattle.stat_defs.specs.declared.configs.Config.{Config}
use Rattle.stat_defs.specs.declared.events.Event.{Event}
use Rattle.stat_defs.specs.declared.reports.FileEnd.{FileEnd}
use Rattle.stat_defs.specs.declared.reports.FileEnd.TheVariants.{Whole, BadLine, LineTooLong, TooBig, TooMany}
use Rattle.stat_defs.specs.declared.reports.FileEnd.TheVariants.{ReadFault, NotOpened}
use Rattle.stat_defs.specs.declared.reports.Report.{Report}
use Rattle.stat_defs.specs.declared.reports.WorkerEnd.{WorkerEnd}
use Rattle.stats_io.specs.States.{SourceState, ShelfState}
use Rattle.stats_io.specs.Told.{MayBe}
use Rattle.event_script.specs.Script.{File}
use Rattle.event_script.specs.FileEvents.{AreEventsOf}
use Rattle.event_script.proofs.OneReading.{file_single}
use Rattle.file_reading.specs.WorkerEnd.{HasCause}
use Rattle.file_reading.specs.FileRead.{FileRead, AreFiles}
use Rattle.boot_file.specs.Boot.{boot}
use Rattle.boot_load.specs.Load.{IsBoot, Loads, IsTooBig}
use Rattle.boot_load.specs.declared.fault.LoadFault.{LoadFault}
use Rattle.boot_load.specs.declared.fault.LoadFault.TheVariants as unloaded
use Rattle.output_options.specs.declared.OutputOptions.{OutputOptions}
use Rattle.replay_files.specs.ReplayReport.{IsReplayOf}
use Rattle.stats_commands.specs.declared.status.TheConstants.{DONE}
use Rattle.stats_commands.specs.declared.outcome.Outcome.{Outcome}
use Rattle.command_words.specs.Command.{Command, Run, Replay, Check, Bins, Load, command}
use Rattle.load_report.specs.LoadReport.{IsLoadOf}
use Rattle.boot_file.proofs.Empty.{usual_config, usual_boots}
use Rattle.stats_commands.specs.Quiet.{without_threads, quiet_command}
use Rattle.stats_commands.specs.World.{World, Sight}
use Rattle.stats_commands.specs.BinLines.{bin_lines}
use Rattle.stats_commands.specs.Outcome.{IsWritten, IsUnstarted, Prints, IsBootFault, Checks, Reports, IsSummarized, Summarizes, IsCall, ends_of, status_of_all, boot_faults_of}
use Rattle.stats_commands.specs.Flawless.{IsToldBoot, IsFlawlessBoot, IsFlawlessFile, EndsWithoutFaults, HasNoFaults, NamesFlawless, IsDoneOrWants, CallsFailByCause}

-- bytes that stand at the front of others are no more than these
front_length : (told : List ℕ) (left : Option (List ℕ)) (given : List ℕ) → Consumes (Some told) left given
    → length given ≤ length told
front_length told None given consumed = absurd consumed
front_length told (Some rest) given consumed =
    omega (arith, ap (λ (xs : List ℕ). length xs) consumed, length-append given rest)

-- the bytes of a bootstrap are those that are told
one_boot : (content : Option (List ℕ)) (name told bytes : List ℕ) → IsToldBoot content name told
    → IsBoot content name bytes → bytes ≡ told
one_boot content name told bytes (inl a) (inl b) = b.1 ∙ sym a.1
one_boot content name told bytes (inl a) (inr b) = absurd (b.0 a.0)
one_boot content name told bytes (inr a) (inl b) = absurd (a.0 b.0)
one_boot content name told bytes (inr a) (inr b) =
    sym (subst (λ (c : Option (List ℕ)). MayBe c bytes) a.1 b.1)

module _ {S : Type 0} (source : S → SourceState) (content : Option (List ℕ)) (name : List ℕ)
    (flawless : IsFlawlessBoot content name) where
  not_too_big : IsTooBig source content name → ⊥
  not_too_big is = by flawless.told
    where
      by : IsToldBoot content name flawless.bytes → ⊥
      by (inl usual) = is.file usual.0
      by (inr file) =
          let told : Consumes (Some flawless.bytes) (source is.read.later).left is.given =
          subst (λ (c : Option (List ℕ)). Consumes c (source is.read.later).left is.given) file.1 is.read.consumed in
          omega (arith, is.long, flawless.short, front_length flawless.bytes (source is.read.later).left is.given told)

-- a file whose content is flawless ended whole, where no count rose
module _ {S : Type 0} (source : S → SourceState) (content : Option (List ℕ)) (name : List ℕ)
    (before after : ShelfState) (worker : WorkerEnd) (events : List Event) (flawless : IsFlawlessFile content)
    (none : ¬ Rose worker.faults_before worker.faults_after) where
  other_end : (end : FileEnd) (bytes : List ℕ) → end ≢ Whole → MayBe content bytes → File bytes events end → ⊥
  other_end end bytes other is file =
      let same : flawless.bytes ≡ bytes = subst (λ (c : Option (List ℕ)). MayBe c bytes) flawless.told is in
      let told : File flawless.bytes events end = subst (λ (bs : List ℕ). File bs events end) (sym same) file in
      other (file_single flawless.bytes events flawless.events end Whole told flawless.whole).1

  ended_whole : (end : FileEnd) → AreEventsOf content end worker.taken events
      → HasCause source content name before after worker end → end ≡ Whole
  ended_whole Whole run cause = refl
  ended_whole (BadLine n) run cause = absurd (other_end (BadLine n) run.0 (λ e. absurd cc) run.1 run.2)
  ended_whole (LineTooLong n) run cause = absurd (other_end (LineTooLong n) run.0 (λ e. absurd cc) run.1 run.2)
  ended_whole TooBig run cause = absurd (other_end TooBig run.0 (λ e. absurd cc) run.1 run.2)
  ended_whole TooMany run cause = absurd (other_end TooMany run.0 (λ e. absurd cc) run.1 run.2)
  ended_whole ReadFault run cause = absurd (none cause.rose)
  ended_whole NotOpened run cause = absurd (none (
      subst (λ (n : ℕ). Rose n worker.faults_after) (sym cause.count_before)
      (subst (λ (n : ℕ). Rose before.faults n) (sym cause.count_after) cause.unopened.rose)
      ))

all_whole : (end : FileEnd) (ends : List FileEnd) → end ≡ Whole → status_of_all ends ≡ DONE
    → status_of_all (end ∷ ends) ≡ DONE
all_whole end ends is rest = subst (λ (e : FileEnd). status_of_all (e ∷ ends) ≡ DONE) (sym is) rest

module _ {F S : Type 0} (shelf : F → ShelfState) (source : S → SourceState) (holds : List ℕ → Option (List ℕ)) where
  files_done : (names : List (List ℕ)) (before after : F) (files : List FileRead)
      → AreFiles shelf source holds names before after files
      → AllByRecursion (λ name. IsFlawlessFile (holds name)) names
      → AllByRecursion (λ (end : WorkerEnd). ¬ Rose end.faults_before end.faults_after)
      (map (λ (file : FileRead). file.end) files)
      → status_of_all (map (λ (end : WorkerEnd). end.end) (map (λ (file : FileRead). file.end) files)) ≡ DONE
  files_done [] before after [] are flawless none = refl
  files_done [] before after (f ∷ fs) are flawless none = absurd are
  files_done (n ∷ ns) before after [] are flawless none = absurd are
  files_done (n ∷ ns) before after (f ∷ fs) are flawless none =
      all_whole f.end.end (map (λ (end : WorkerEnd). end.end) (map (λ (file : FileRead). file.end) fs))
      (ended_whole source (holds n) n (shelf before) (shelf are.0) f.end f.events flawless.0 none.0 f.end.end
      are.1.0.run are.1.0.cause)
      (files_done ns are.0 after fs are.1.1 flawless.1 none.1)

module _ {K F S O E : Type 0} (see : Sight K F S O E) (before after : World K F O E) (outcome : Outcome)
    (none : HasNoFaults see before after outcome) where
  no_boot_fault : (name : List ℕ) (status : ℕ) → IsFlawlessBoot (see.holds before.shelf name) name
      → IsBootFault see before after name status outcome.boot_faults → ⊥
  no_boot_fault name status flawless is = by is.fault is.no_want is.boot_faults_are is.cause
    where
      by : (fault : LoadFault) → fault ≢ unloaded.NoMemory → outcome.boot_faults ≡ boot_faults_of fault
          → Loads see.source (see.holds before.shelf name) name (see.shelf before.shelf) (see.shelf after.shelf)
          (see.maker before.maker) (see.maker after.maker) (Err fault)
          → ⊥
      by unloaded.TooBig some are cause = not_too_big see.source (see.holds before.shelf name) name flawless cause.0.0
      by (unloaded.Faulty fault) some are cause =
          let found = cause.0.0 in
          let same : found.bytes ≡ flawless.bytes =
          one_boot (see.holds before.shelf name) name flawless.bytes found.bytes flawless.told found.is_boot.bytes_are in
          let both : Ok flawless.config ≡ Err fault =
          sym flawless.says ∙ (ap (λ (bs : List ℕ). boot bs) (sym same) ∙ found.says) in
          absurd cc
      by (unloaded.BadPattern path) some are cause = none.maker cause.refused.refused.0
      by unloaded.OpenFailed some are cause = none.shelf cause.0.1.rose
      by (unloaded.ReadFailed count) some are cause =
          none.boot_source (subst (λ (n : ℕ). Rose 0 n) (sym are) cause.0.0.rose)
      by unloaded.NoMemory some are cause = some refl

  written_whole : (text : List ℕ) (whole status : ℕ)
      → IsWritten (see.out before.out) (see.out after.out) text whole status → status ≡ whole
  written_whole text whole status (inl is) = is.0
  written_whole text whole status (inr cut) = absurd (none.out cut.1.rose)

  done_printed : (text : List ℕ) (status : ℕ) → Prints see.out before.out after.out (see.err before.err) (see.err after.err) text status
      → IsDoneOrWants status
  done_printed text status (inl is) = inl (written_whole text DONE status is.written)
  done_printed text status (inr up) = inr up.status_is

  done_checks : (boot : List ℕ) (status : ℕ) → IsFlawlessBoot (see.holds before.shelf boot) boot
      → Checks see before after boot status outcome.boot_faults → IsDoneOrWants status
  done_checks boot status flawless (inl is) = inl (written_whole _ DONE status is.1.printed.written)
  done_checks boot status flawless (inr (inl is)) = absurd (no_boot_fault boot status flawless is)
  done_checks boot status flawless (inr (inr up)) = inr up.1.status_is

  -- the usual bootstrap says a configuration
  usual_flawless : (content : Option (List ℕ)) → IsFlawlessBoot content (codes "-")
  usual_flawless content = record {
    bytes = codes "{}";
    told = inl (refl, refl);
    short = omega arith;
    config = usual_config;
    says = usual_boots;
  }

  pub done_summary : (Comes : Config → ℕ → ℕ → Report → Type 0) (scripts n : ℕ)
      → Summarizes see before after Comes scripts n outcome → IsDoneOrWants outcome.status
  done_summary Comes scripts n is = by is.comes
    where
      by : ((outcome.boot_faults ≡ 0) × IsSummarized see before after Comes scripts n outcome.status)
          ⊎ (IsBootFault see before after (codes "-") outcome.status outcome.boot_faults ⊎ ((outcome.boot_faults ≡ 0)
          × IsUnstarted before.out after.out (see.err before.err) (see.err after.err) outcome.status))
          → IsDoneOrWants outcome.status
      by (inl done) = inl (written_whole done.1.text DONE outcome.status done.1.printed.written)
      by (inr (inl fault)) = absurd (no_boot_fault (codes "-") outcome.status (usual_flawless (see.holds before.shelf (codes "-"))) fault)
      by (inr (inr up)) = inr up.1.status_is

-- what is said of a report that came of files, by a run or a replay
pub record TellsFiles {F S : Type 0} (shelf : F → ShelfState) (source : S → SourceState)
    (holds : List ℕ → Option (List ℕ)) (names : List (List ℕ)) (before after : F) (report : Report) : Type 0 where
  pub files : List FileRead
  pub are_files : AreFiles shelf source holds names before after files
  pub ends : report.ends ≡ map (λ file. file.end) files

-- a run or a replay
module _ {K F S O E : Type 0} (see : Sight K F S O E) (before after : World K F O E)
    (Comes : Config → List (List ℕ) → F → F → Report → Type 0)
    (tells : (config : Config) (names : List (List ℕ)) (old new : F) (report : Report)
    → Comes config names old new report
    → TellsFiles see.shelf see.source (see.holds before.shelf) names old new report)
    (options : OutputOptions) (boot : List ℕ) (names : List (List ℕ))
    (flawless : IsFlawlessBoot (see.holds before.shelf boot) boot)
    (all : AllByRecursion (λ name. IsFlawlessFile (see.holds before.shelf name)) names) where
  report_done : (report : Report) (old new : F)
      → TellsFiles see.shelf see.source (see.holds before.shelf) names old new report
      → EndsWithoutFaults (Some report) → status_of_all (ends_of report) ≡ DONE
  report_done report old new is none =
      let done = files_done see.shelf see.source (see.holds before.shelf) names old new is.files is.are_files all
      (subst (AllByRecursion (λ (end : WorkerEnd). ¬ Rose end.faults_before end.faults_after)) is.ends none) in
      ap (λ (ends : List WorkerEnd). status_of_all (map (λ (end : WorkerEnd). end.end) ends)) is.ends ∙ done

  pub done_reports : (outcome : Outcome) → HasNoFaults see before after outcome
      → Reports see before after Comes options boot names outcome.status outcome.report outcome.boot_faults
      → IsDoneOrWants outcome.status
  done_reports outcome none is = by outcome.report none.ends is
    where
      by : (report : Option Report) → EndsWithoutFaults report
          → Reports see before after Comes options boot names outcome.status report outcome.boot_faults
          → IsDoneOrWants outcome.status
      by None ends (inl fault) = absurd (no_boot_fault see before after outcome none boot outcome.status flawless fault)
      by None ends (inr up) = inr up.1.status_is
      by (Some report) ends (read, is) =
          inl (written_whole see before after outcome none _ (status_of_all (ends_of report)) outcome.status is.written
          ∙ report_done report is.over.between after.shelf
          (tells is.loaded.config names is.over.between after.shelf report is.over.comes) ends)

-- a command that starts no thread
module _ {K F S O E : Type 0} (see : Sight K F S O E) (before after : World K F O E) (outcome : Outcome)
    (none : HasNoFaults see before after outcome) where
  pub done_quiet : (said : Command) (says : Option Command) → IsCall see before after says outcome → says ≡ Some said
      → without_threads said ≡ Some said → NamesFlawless see before after said → IsDoneOrWants outcome.status
  done_quiet (Run options boot names) says is e quiet named = absurd cc
  done_quiet (Replay options boot names) says is e quiet named =
      done_reports see before after (IsReplayOf see.shelf see.source (see.holds before.shelf))
      (λ config names old new report comes. record { files = comes.files; are_files = comes.are_files; ends = comes.ends })
      options boot names named.0 named.1 outcome none (is.replayed options boot names e)
  done_quiet (Check boot) says is e quiet named =
      done_checks see before after outcome none boot outcome.status named (is.checked boot e).1
  done_quiet (Bins values) says is e quiet named =
      done_printed see before after outcome none (bin_lines values) outcome.status (is.binned values e).2.printed
  done_quiet (Load true scripts n) says is e quiet named = absurd cc
  done_quiet (Load false scripts n) says is e quiet named =
      done_summary see before after outcome none IsLoadOf scripts n (is.loaded scripts n e)

-- a command that is served where no thread may be started is none that starts one
quiet_is : (all : Option Command) (said : Command) → option_and_then without_threads all ≡ Some said
    → without_threads said ≡ Some said
quiet_is None said e = absurd cc
quiet_is (Some (Run options boot names)) said e = absurd cc
quiet_is (Some (Replay options boot names)) said e =
    let same : Replay options boot names ≡ said = cc in
    subst (λ (c : Command). without_threads c ≡ Some c) same refl
quiet_is (Some (Check boot)) said e =
    let same : Check boot ≡ said = cc in
    subst (λ (c : Command). without_threads c ≡ Some c) same refl
quiet_is (Some (Bins values)) said e =
    let same : Bins values ≡ said = cc in
    subst (λ (c : Command). without_threads c ≡ Some c) same refl
quiet_is (Some (Load true scripts n)) said e = cc
quiet_is (Some (Load false scripts n)) said e =
    let same : Load false scripts n ≡ said = cc in
    subst (λ (c : Command). without_threads c ≡ Some c) same refl

pub calls_fail_by_cause : {K F S O E : Type 0} (see : Sight K F S O E) → CallsFailByCause see
calls_fail_by_cause see before after words outcome is flawless =
    done_quiet see before after outcome flawless.no_faults flawless.said (quiet_command words) is flawless.served
    (quiet_is (command words) flawless.said flawless.served) flawless.named
