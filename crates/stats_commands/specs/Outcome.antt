-- How a call ends, and what it leaves. This project's own.
use Rattle.std.specs.Prelude.{◌≡◌, ◌≢◌, ◌⊎◌, ◌==◌, false, if◌then◌else◌, ℕ, Option, Some, None, Ok, Err, List, [], ◌∷◌}
use Rattle.std.specs.Prelude.{map, codes}
use Rattle.std.specs.Io.KnownBytes.{Appends}
use Rattle.std.specs.IoError.{error_kind}
use Rattle.std.specs.declared.io.Error.{Error}
use Rattle.std.specs.declared.io.ErrorKind.TheVariants.{OutOfMemory}
use Rattle.stat_defs.specs.Faults.{Rose}
use Rattle.stat_defs.specs.declared.configs.Config.{Config}
use Rattle.stat_defs.specs.declared.reports.FileEnd.{FileEnd}
use Rattle.stat_defs.specs.declared.reports.FileEnd.TheVariants.{Whole, BadLine, LineTooLong, TooBig, TooMany}
use Rattle.stat_defs.specs.declared.reports.FileEnd.TheVariants.{ReadFault, NotOpened}
use Rattle.stat_defs.specs.declared.reports.Report.{Report}
use Rattle.stats_io.specs.States.{SinkState}
use Rattle.stats_io.specs.Push.{AppendsFront, WritesWhole, WritesFront}
use Rattle.boot_load.specs.declared.loading.Boot.{Boot}
use Rattle.boot_load.specs.declared.fault.LoadFault.{LoadFault}
use Rattle.boot_load.specs.declared.fault.LoadFault.TheVariants as unloaded
use Rattle.boot_load.specs.Load.{Loads}
use Rattle.boot_load.specs.BootLine.{boot_line}
use Rattle.replay_files.specs.ReplayReport.{IsReplayOf}
use Rattle.report_text.specs.ReportText.{report_text}
use Rattle.output_options.specs.declared.OutputOptions.{OutputOptions}
use Rattle.stats_commands.specs.declared.status.TheConstants.{DONE, NO_COMMAND, BAD_BOOT, BAD_FILE, UNREADABLE, UNWRITTEN}
use Rattle.stats_commands.specs.declared.status.TheConstants.{NO_MEMORY}
use Rattle.stats_commands.specs.declared.outcome.Outcome.{Outcome}
use Rattle.command_words.specs.Command.{Command, Replay, Check, Bins, Load}
use Rattle.load_report.specs.LoadReport.{IsLoadOf}
use Rattle.load_text.specs.Summarized.{IsSummaryOf}
use Rattle.stats_commands.specs.World.{World, Sight}
use Rattle.stats_commands.specs.BinLines.{bin_lines}
use Rattle.stats_commands.specs.LoadedLine.{loaded_line}
use Rattle.stats_commands.specs.FaultLines.{usage, out_of_memory, write_line, said_of}

-- the status of a file's end
abbrev pub status_of : FileEnd → ℕ
status_of Whole = DONE
status_of (BadLine n) = BAD_FILE
status_of (LineTooLong n) = BAD_FILE
status_of TooBig = BAD_FILE
status_of TooMany = BAD_FILE
status_of ReadFault = UNREADABLE
status_of NotOpened = UNREADABLE

-- the status of the first file that was not read whole
abbrev pub status_of_all : List FileEnd → ℕ
status_of_all [] = DONE
status_of_all (end ∷ ends) = if status_of end == DONE then status_of_all ends else status_of end

-- the status of a bootstrap that was not loaded
abbrev pub status_of_boot : LoadFault → ℕ
status_of_boot unloaded.TooBig = BAD_BOOT
status_of_boot (unloaded.Faulty fault) = BAD_BOOT
status_of_boot (unloaded.BadPattern path) = BAD_BOOT
status_of_boot unloaded.OpenFailed = UNREADABLE
status_of_boot (unloaded.ReadFailed count) = UNREADABLE
status_of_boot unloaded.NoMemory = NO_MEMORY

-- how many faults the source of a bootstrap that was not loaded has counted: 0 where no pull failed
abbrev pub boot_faults_of : LoadFault → ℕ
boot_faults_of unloaded.TooBig = 0
boot_faults_of (unloaded.Faulty fault) = 0
boot_faults_of (unloaded.BadPattern path) = 0
boot_faults_of unloaded.OpenFailed = 0
boot_faults_of (unloaded.ReadFailed count) = count
boot_faults_of unloaded.NoMemory = 0

-- how the files of a report ended
abbrev pub ends_of : Report → List FileEnd
ends_of report = map (λ end. end.end) report.ends

-- where the sink's count did not rise, the text was written to it
abbrev pub IsSaid : SinkState → SinkState → List ℕ → Type 0
IsSaid before after text = ¬ Rose before.faults after.faults → Appends before.written after.written text

-- All of the text was written, and the status is this one. Or a push failed behind a front of the text, which has a
-- status of its own.
abbrev pub IsWritten : SinkState → SinkState → List ℕ → ℕ → ℕ → Type 0
IsWritten before after text whole status =
    ((status ≡ whole) × WritesWhole before after text) ⊎ ((status ≡ UNWRITTEN) × WritesFront before after text)

-- the text was written, or a front of it where a push failed, and that was said
pub record IsPrinted (out_before out_after err_before err_after : SinkState) (text : List ℕ) (status : ℕ) : Type 0 where
  pub written : IsWritten out_before out_after text DONE status
  pub said : IsSaid err_before err_after (write_line status)

-- memory was wanting before anything was written, and that was said
pub record IsUnstarted {O : Type 0} (out_before out_after : O) (err_before err_after : SinkState)
    (status : ℕ) : Type 0 where
  pub status_is : status ≡ NO_MEMORY
  pub unwritten : out_after ≡ out_before
  pub said : IsSaid err_before err_after out_of_memory

-- the text is all that a call writes, where memory is there
abbrev pub Prints : {O : Type 0} → (O → SinkState) → O → O → SinkState → SinkState → List ℕ → ℕ → Type 0
Prints state out_before out_after err_before err_after text status =
    IsPrinted (state out_before) (state out_after) err_before err_after text status
    ⊎ IsUnstarted out_before out_after err_before err_after status

module _ {K F S O E : Type 0} (see : Sight K F S O E) (before after : World K F O E) where
  -- the words are no command: all but `err` is as it was
  pub record IsRefused : Type 0 where
    pub maker : after.maker ≡ before.maker
    pub shelf : after.shelf ≡ before.shelf
    pub out : after.out ≡ before.out
    pub said : IsSaid (see.err before.err) (see.err after.err) usage

  -- memory was wanting before the words were read: all but `err` is as it was
  pub record IsUnread (status : ℕ) : Type 0 where
    pub status_is : status ≡ NO_MEMORY
    pub maker : after.maker ≡ before.maker
    pub shelf : after.shelf ≡ before.shelf
    pub out : after.out ≡ before.out
    pub said : IsSaid (see.err before.err) (see.err after.err) out_of_memory

  -- words that are no command are told so, where memory is there to read them
  abbrev pub Refuses : ℕ → Type 0
  Refuses status = ((status ≡ NO_COMMAND) × IsRefused) ⊎ IsUnread status

  module _ (boot : List ℕ) where
    -- the bootstrap was not loaded, and nothing was written; for `-` no file was opened
    pub record IsBootFault (status boot_faults : ℕ) : Type 0 where
      pub fault : LoadFault
      pub cause : Loads see.source (see.holds before.shelf boot) boot (see.shelf before.shelf) (see.shelf after.shelf)
          (see.maker before.maker) (see.maker after.maker) (Err fault)
      pub no_want : fault ≢ unloaded.NoMemory
      pub status_is : status ≡ status_of_boot fault
      pub boot_faults_are : boot_faults ≡ boot_faults_of fault
      pub unwritten : after.out ≡ before.out
      pub usual : boot ≡ codes "-" → after.shelf ≡ before.shelf
      pub said : IsSaid (see.err before.err) (see.err after.err) (boot_line fault)

    -- all patterns of the bootstrap were made, and the line on it was written; for `-` no file was opened
    pub record IsChecked (status : ℕ) : Type 0 where
      pub loaded : Boot
      pub boot_loaded : Loads see.source (see.holds before.shelf boot) boot (see.shelf before.shelf)
          (see.shelf after.shelf)
          (see.maker before.maker) (see.maker after.maker) (Ok loaded)
      pub usual : boot ≡ codes "-" → after.shelf ≡ before.shelf
      pub printed : IsPrinted (see.out before.out) (see.out after.out) (see.err before.err) (see.err after.err)
          (loaded_line loaded.config) status

    -- the bootstrap was loaded, or it was not, or memory was wanting
    abbrev pub Checks : ℕ → ℕ → Type 0
    Checks status boot_faults = ((boot_faults ≡ 0) × IsChecked status) ⊎ (IsBootFault status boot_faults
        ⊎ ((boot_faults ≡ 0) × IsUnstarted before.out after.out (see.err before.err) (see.err after.err) status))

  -- A run and a replay: `Comes` says which report comes of these files under a configuration, between two states of the
  -- shelf.
  module _ (Comes : Config → List (List ℕ) → F → F → Report → Type 0) (options : OutputOptions) (boot : List ℕ)
      (names : List (List ℕ)) where
    -- the bootstrap was loaded with all its patterns, and then this report came of the files
    pub record IsReportOver (loaded : Boot) (report : Report) : Type 0 where
      pub between : F
      pub boot_loaded : Loads see.source (see.holds before.shelf boot) boot (see.shelf before.shelf) (see.shelf between)
          (see.maker before.maker) (see.maker after.maker) (Ok loaded)
      pub comes : Comes loaded.config names between after.shelf report

    -- the text of that report was written
    pub record IsReported (status : ℕ) (report : Report) : Type 0 where
      pub loaded : Boot
      pub over : IsReportOver loaded report
      pub written : IsWritten (see.out before.out) (see.out after.out) (report_text options loaded.config report)
          (status_of_all (ends_of report)) status
      pub said : IsSaid (see.err before.err) (see.err after.err) (said_of (ends_of report) status)

    -- a front of the text of such a report was written
    pub record IsCutShort : Type 0 where
      pub loaded : Boot
      pub report : Report
      pub over : IsReportOver loaded report
      pub front : AppendsFront (see.out before.out).written (see.out after.out).written
          (report_text options loaded.config report)

    -- memory was wanting: nothing was written, or a front of such a text
    pub record IsGivenUp (status : ℕ) : Type 0 where
      pub status_is : status ≡ NO_MEMORY
      pub written : (after.out ≡ before.out) ⊎ IsCutShort
      pub said : IsSaid (see.err before.err) (see.err after.err) out_of_memory

    -- a report comes where the bootstrap was loaded and memory was there
    abbrev pub Reports : ℕ → Option Report → ℕ → Type 0
    Reports status None boot_faults = IsBootFault boot status boot_faults ⊎ ((boot_faults ≡ 0) × IsGivenUp status)
    Reports status (Some report) boot_faults = (boot_faults ≡ 0) × IsReported status report

  -- the files were replayed, one after another
  abbrev pub Replays : OutputOptions → List ℕ → List (List ℕ) → Outcome → Type 0
  Replays options boot names outcome = Reports (IsReplayOf see.shelf see.source (see.holds before.shelf)) options boot
      names outcome.status outcome.report outcome.boot_faults

  -- the bins of these values were told; no file was opened and no pattern made
  pub record IsBinned (values : List ℕ) (status : ℕ) : Type 0 where
    pub maker : after.maker ≡ before.maker
    pub shelf : after.shelf ≡ before.shelf
    pub printed : Prints see.out before.out after.out (see.err before.err) (see.err after.err) (bin_lines values) status

  -- A load: `Comes` says which report comes of so many scripts of so many events each under a configuration.
  module _ (Comes : Config → ℕ → ℕ → Report → Type 0) (scripts n : ℕ) where
    -- the usual bootstrap was loaded with all its patterns, this report came of the scripts, and its summary was written
    pub record IsSummarized (status : ℕ) : Type 0 where
      pub loaded : Boot
      pub boot_loaded : Loads see.source (see.holds before.shelf (codes "-")) (codes "-") (see.shelf before.shelf)
          (see.shelf after.shelf) (see.maker before.maker) (see.maker after.maker) (Ok loaded)
      pub report : Report
      pub comes : Comes loaded.config scripts n report
      pub text : List ℕ
      pub is_summary : IsSummaryOf loaded.config scripts n report text
      pub printed : IsPrinted (see.out before.out) (see.out after.out) (see.err before.err) (see.err after.err)
          text status

    -- the scripts were applied, or the bootstrap was refused, or memory was wanting; no file was opened in any case
    pub record Summarizes (outcome : Outcome) : Type 0 where
      pub report : outcome.report ≡ None
      pub shelf : after.shelf ≡ before.shelf
      pub comes : ((outcome.boot_faults ≡ 0) × IsSummarized outcome.status)
          ⊎ (IsBootFault (codes "-") outcome.status outcome.boot_faults ⊎ ((outcome.boot_faults ≡ 0)
          × IsUnstarted before.out after.out (see.err before.err) (see.err after.err) outcome.status))

  -- What a call does whose words say this command, or none. Status 1 is that of words that are no command, and each
  -- command that starts no thread has what it comes to; a report comes of a replay alone, and faults of the bootstrap's
  -- source of a command that has one.
  pub record IsCall (says : Option Command) (outcome : Outcome) : Type 0 where
    pub usage_status : outcome.status ≡ NO_COMMAND → says ≡ None
    pub refused : says ≡ None → (outcome.report ≡ None) × (outcome.boot_faults ≡ 0) × Refuses outcome.status
    pub replayed : (options : OutputOptions) (boot : List ℕ) (names : List (List ℕ))
        → says ≡ Some (Replay options boot names) → Replays options boot names outcome
    pub checked : (boot : List ℕ) → says ≡ Some (Check boot)
        → (outcome.report ≡ None) × Checks boot outcome.status outcome.boot_faults
    pub binned : (values : List ℕ) → says ≡ Some (Bins values)
        → (outcome.report ≡ None) × (outcome.boot_faults ≡ 0) × IsBinned values outcome.status
    pub loaded : (scripts n : ℕ) → says ≡ Some (Load false scripts n) → Summarizes IsLoadOf scripts n outcome

-- the words could not be read: for want of memory, or since one of them is no text
abbrev pub IsUnreadable : SinkState → SinkState → Error → ℕ → Type 0
IsUnreadable before after fault status =
    (error_kind fault ≡ OutOfMemory → (status ≡ NO_MEMORY) × IsSaid before after out_of_memory)
    × (error_kind fault ≢ OutOfMemory → (status ≡ NO_COMMAND) × IsSaid before after usage)
