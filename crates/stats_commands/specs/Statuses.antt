-- The table of statuses: what each of them says of a call. This project's own.
use Rattle.std.specs.Prelude.{◌≡◌, ◌≢◌, ◌≤◌, ◌⊎◌, ℕ, Option, Some, None, List}
use Rattle.stat_defs.specs.declared.reports.Report.{Report}
use Rattle.stats_io.specs.Push.{AppendsFront, WritesWhole, WritesFront}
use Rattle.boot_load.specs.declared.fault.LoadFault.{LoadFault}
use Rattle.boot_load.specs.declared.fault.LoadFault.TheVariants as unloaded
use Rattle.boot_load.specs.BootLine.{boot_line}
use Rattle.stats_commands.specs.declared.status.TheConstants.{DONE, NO_COMMAND, BAD_BOOT, BAD_FILE, UNREADABLE, UNWRITTEN}
use Rattle.stats_commands.specs.declared.status.TheConstants.{NO_MEMORY}
use Rattle.stats_commands.specs.declared.outcome.Outcome.{Outcome}
use Rattle.command_words.specs.Command.{Command}
use Rattle.stats_commands.specs.Quiet.{quiet_command}
use Rattle.stats_commands.specs.World.{World, Sight}
use Rattle.stats_commands.specs.FaultLines.{out_of_memory, said_of}
use Rattle.stats_commands.specs.Outcome.{IsSaid, IsRefused, IsCall, ends_of, status_of_all, status_of_boot}

module _ {K F S O E : Type 0} (see : Sight K F S O E) (before after : World K F O E) where
  -- a text was written whole, and no push failed
  abbrev pub WritesText : Type 0
  WritesText = (text : List ℕ) × WritesWhole (see.out before.out) (see.out after.out) text

  -- a push failed behind a front of a text
  abbrev pub BreaksOff : Type 0
  BreaksOff = (text : List ℕ) × WritesFront (see.out before.out) (see.out after.out) text

  -- nothing was written, or a front of a text
  abbrev pub WritesLittle : Type 0
  WritesLittle = (after.out ≡ before.out)
      ⊎ ((text : List ℕ) × AppendsFront (see.out before.out).written (see.out after.out).written text)

  -- the bootstrap was not loaded, for a fault of this status: that was said, and nothing was written
  pub record IsUnloaded (status : ℕ) : Type 0 where
    pub fault : LoadFault
    pub no_want : fault ≢ unloaded.NoMemory
    pub status_is : status_of_boot fault ≡ status
    pub unwritten : after.out ≡ before.out
    pub said : IsSaid (see.err before.err) (see.err after.err) (boot_line fault)

  -- the first file of the report that was not read whole has this status, DONE where all were: the lines on the files
  -- were said, and a text was written
  pub record IsReportOf (report : Report) (status : ℕ) : Type 0 where
    pub status_is : status_of_all (ends_of report) ≡ status
    pub text : WritesText
    pub said : IsSaid (see.err before.err) (see.err after.err) (said_of (ends_of report) status)

  -- the same of the report that came
  abbrev pub IsOfFiles : Option Report → ℕ → Type 0
  IsOfFiles report status = (told : Report) × (report ≡ Some told) × IsReportOf told status

  -- What the statuses say. 0: a text was written, and if there is a report, all its files were read whole. 1: the words
  -- are no command. 2: the bootstrap is at fault. 3: a file is. 4: the bootstrap could not be read, or a file. 5: a push
  -- failed. 6: memory was wanting. There is no other one.
  pub record KeepsTable (says : Option Command) (status : ℕ) (report : Option Report) : Type 0 where
    pub done : status ≡ DONE → WritesText × ((report ≡ None) ⊎ IsOfFiles report DONE)
    pub no_command : status ≡ NO_COMMAND → (says ≡ None) × (report ≡ None) × IsRefused see before after
    pub bad_boot : status ≡ BAD_BOOT → (report ≡ None) × IsUnloaded BAD_BOOT
    pub bad_file : status ≡ BAD_FILE → IsOfFiles report BAD_FILE
    pub unreadable : status ≡ UNREADABLE → ((report ≡ None) × IsUnloaded UNREADABLE) ⊎ IsOfFiles report UNREADABLE
    pub unwritten : status ≡ UNWRITTEN → BreaksOff
    pub no_memory : status ≡ NO_MEMORY → (report ≡ None) × WritesLittle × IsSaid (see.err before.err) (see.err after.err) out_of_memory
    pub no_other : status ≤ NO_MEMORY

-- a call without threads keeps the table
abbrev pub CallsKeepTable : {K F S O E : Type 0} → Sight K F S O E → Type 0
CallsKeepTable {K} {F} {S} {O} {E} see = (before after : World K F O E) (words : List (List ℕ)) (outcome : Outcome)
    → IsCall see before after (quiet_command words) outcome
    → KeepsTable see before after (quiet_command words) outcome.status outcome.report
