-- The report of a run over files, each of which had a worker of its own (this project's own).
use Rattle.std.specs.Prelude.{ℕ, Option, None, List, map}
use Rattle.std.specs.List.{zip, AllZip}
use Rattle.stat_defs.specs.declared.configs.Config.{Config}
use Rattle.stat_defs.specs.declared.events.Event.{Event}
use Rattle.stat_defs.specs.declared.reports.Report.{Report}
use Rattle.stats_io.specs.States.{SourceState}
use Rattle.ledger.specs.Ledger.{RunLedger, plan_of}
use Rattle.ledger.specs.Once.{HasScopesOnce}
use Rattle.worker_run.specs.declared.given.Given.{Given}
use Rattle.worker_run.specs.declared.given.Given.TheVariants.{Opened, Missing}
use Rattle.worker_run.specs.Working.{IsFileRead}

-- what is told of a file's content: what its source has left, and nothing where there is none
abbrev pub content_of : {S : Type 0} → (S → SourceState) → Given S → Option (List ℕ)
content_of state (Opened source) = (state source).left
content_of state Missing = None

-- A run of this configuration over these files gave this report. Each file was read to its end, which has a cause, and
-- the report is the ledger of the files' events. No scope was opened twice or released twice, whichever workers did it.
pub record IsRunOfGiven {S : Type 0} (state : S → SourceState) (config : Config) (files : List (Given S)) (report : Report)
    : Type 0 where
  pub events : List (List Event)
  pub read : AllZip (λ file told. IsFileRead state file told.1 told.0) files (zip report.ends events)
  pub ledger : RunLedger (map (content_of state) files) events (plan_of config) report
  pub scopes : HasScopesOnce report
