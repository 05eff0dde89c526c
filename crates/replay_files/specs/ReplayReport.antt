-- The report of files that are replayed one after another. This project's own.
use Rattle.std.specs.Prelude.{◌≡◌, ℕ, Option, List, map}
use Rattle.stat_defs.specs.declared.configs.Config.{Config}
use Rattle.stat_defs.specs.declared.reports.Report.{Report}
use Rattle.stats_io.specs.States.{SourceState, ShelfState}
use Rattle.ledger.specs.Ledger.{ReplayLedger, plan_of}
use Rattle.file_reading.specs.FileRead.{FileRead, AreFiles}

module _ {F S : Type 0} (shelf : F → ShelfState) (source : S → SourceState) (holds : List ℕ → Option (List ℕ)) where
  -- The files of these names were read in order, between these states of the shelf. Their ends are those of the
  -- report, which is the ledger of a replay of their events.
  pub record IsReplayOf (config : Config) (names : List (List ℕ)) (before after : F) (report : Report) : Type 0 where
    pub files : List FileRead
    pub are_files : AreFiles shelf source holds names before after files
    pub ends : report.ends ≡ map (λ file. file.end) files
    pub ledger : ReplayLedger (map holds names) (map (λ file. file.events) files) (plan_of config) report
