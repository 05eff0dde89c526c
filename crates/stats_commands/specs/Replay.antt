-- How a replay comes to its report and ends with its text. This project's own.
use Rattle.std.specs.Prelude.{◌≡◌, ◌≤◌, ◌⊎◌, ℕ, Option, Some, None, Result, Ok, Err, List, length}
use Rattle.stats_io.specs.States.{SinkState}
use Rattle.stats_io.specs.Push.{AppendsFront}
use Rattle.stat_defs.specs.Configs.{IsConfig}
use Rattle.stat_defs.specs.declared.configs.Config.{Config}
use Rattle.stat_defs.specs.declared.reports.Report.{Report}
use Rattle.boot_load.specs.declared.loading.Boot.{Boot}
use Rattle.boot_load.specs.declared.fault.LoadFault.{LoadFault}
use Rattle.boot_load.specs.BootLine.{boot_line}
use Rattle.flush_view.specs.Showing.{IsShowable}
use Rattle.flush_view.specs.Views.{names_shown, view_rules}
use Rattle.file_reading.specs.declared.limits.TheConstants.{MAX_FILES}
use Rattle.text_parts.specs.declared.fault.TextFault.{TextFault}
use Rattle.text_parts.specs.declared.fault.TextFault.TheVariants.{WriteFault, NoMemory}
use Rattle.stats_commands.specs.declared.status.TheConstants.{UNWRITTEN, NO_MEMORY}
use Rattle.stats_commands.specs.declared.outcome.Outcome.{Outcome}
use Rattle.stats_commands.specs.declared.replay.Recorded.{Recorded}
use Rattle.stats_commands.specs.FaultLines.{out_of_memory, said_of}
use Rattle.stats_commands.specs.Outcome.{IsSaid, IsWritten, ends_of, status_of_all, status_of_boot, boot_faults_of}

-- the patterns of a bootstrap are those of its configuration
pub record IsBuilt (boot : Boot) : Type 0 where
  pub lawful : IsConfig boot.config
  pub rules : boot.rules ≡ boot.config.tags
  pub matcher : boot.matcher ≡ boot.config.matcher
  pub buckets : boot.buckets ≡ boot.config.buckets
  pub view_rules : boot.view_rules ≡ boot.config.tags

-- the report can be shown, with the names in its log and the buckets of its configuration
pub record IsRecorded (recorded : Recorded) : Type 0 where
  pub names : recorded.names ≡ names_shown (view_rules recorded.config).names recorded.report.log
  pub buckets : recorded.buckets ≡ recorded.config.buckets
  pub showable : IsShowable recorded.config recorded.report
  pub few : length recorded.report.ends ≤ MAX_FILES

-- the report that comes of these files under that configuration, and can be shown
pub record Records {F : Type 0} (Comes : Config → List (List ℕ) → F → F → Report → Type 0) (config : Config)
    (names : List (List ℕ)) (before after : F) (recorded : Recorded) : Type 0 where
  pub config_is : recorded.config ≡ config
  pub comes : Comes config names before after recorded.report
  pub recorded_is : IsRecorded recorded

-- How the files of a report ended was said, and how the writing of its text did. There is no report where memory was
-- wanting.
abbrev pub EndsAs : {T : Type 0} → SinkState → SinkState → Report → Result T TextFault → ℕ → Option Report → Type 0
EndsAs before after report (Ok _) status told = (told ≡ Some report) × (status ≡ status_of_all (ends_of report))
    × IsSaid before after (said_of (ends_of report) status)
EndsAs before after report (Err WriteFault) status told = (told ≡ Some report) × (status ≡ UNWRITTEN)
    × IsSaid before after (said_of (ends_of report) status)
EndsAs before after report (Err NoMemory) status told = (told ≡ None) × (status ≡ NO_MEMORY)
    × IsSaid before after out_of_memory

module _ {O : Type 0} (sink : O → SinkState) (out_before out_after : O) (err_before err_after : SinkState) where
  -- a report comes with its text written or cut off, and none comes with nothing or a front of the text
  abbrev pub EndsWith : List ℕ → Report → ℕ → Option Report → Type 0
  EndsWith text report status None = (status ≡ NO_MEMORY)
      × ((out_after ≡ out_before) ⊎ AppendsFront (sink out_before).written (sink out_after).written text)
      × IsSaid err_before err_after out_of_memory
  EndsWith text report status (Some told) = (told ≡ report)
      × IsWritten (sink out_before) (sink out_after) text (status_of_all (ends_of report)) status
      × IsSaid err_before err_after (said_of (ends_of report) status)

-- why the bootstrap was not loaded was said, or that memory was wanting
abbrev pub RefusesBoot : SinkState → SinkState → LoadFault → Outcome → Type 0
RefusesBoot before after fault outcome =
    ((outcome ≡ record { status = status_of_boot fault; report = None; boot_faults = boot_faults_of fault })
    × IsSaid before after (boot_line fault))
    ⊎ ((outcome ≡ record { status = NO_MEMORY; report = None; boot_faults = 0 })
    × IsSaid before after out_of_memory)
