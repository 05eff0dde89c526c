-- The report of files that workers apply side by side. This project's own.
use Rattle.std.specs.Prelude.{◌≡◌, ℕ, Option, List, map}
use Rattle.stat_defs.specs.declared.configs.Config.{Config}
use Rattle.stat_defs.specs.declared.reports.Report.{Report}
use Rattle.stats_io.specs.States.{SourceState, ShelfState}
use Rattle.ledger.specs.Ledger.{RunLedger, plan_of}
use Rattle.ledger.specs.Once.{HasScopesOnce}
use Rattle.file_reading.specs.FileRead.{FileRead, AreFiles}

module _ {F S : Type 0} (shelf : F → ShelfState) (source : S → SourceState) (holds : List ℕ → Option (List ℕ)) where
  -- The files of these names were opened in order, between these states of the shelf, and each was read by a worker of
  -- its own. Their ends are those of the report, which is the ledger of a run of their events, whatever order the
  -- threads took. No scope was opened twice or released twice.
  pub record IsRunOf (config : Config) (names : List (List ℕ)) (before after : F) (report : Report) : Type 0 where
    pub files : List FileRead
    pub are_files : AreFiles shelf source holds names before after files
    pub ends : report.ends ≡ map (λ file. file.end) files
    pub ledger : RunLedger (map holds names) (map (λ file. file.events) files) (plan_of config) report
    pub scopes : HasScopesOnce report
