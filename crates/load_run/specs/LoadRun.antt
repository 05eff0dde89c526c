-- The report of a run of scripts. This project's own.
use Rattle.std.specs.Prelude.{ℕ}
use Rattle.stat_defs.specs.declared.configs.Config.{Config}
use Rattle.stat_defs.specs.declared.reports.Report.{Report}
use Rattle.load_scripts.specs.Load.{script_texts, scripts}
use Rattle.ledger.specs.Ledger.{RunLedger, plan_of}

-- The report of scripts that are run side by side: the ledger of a run of their events, as if each script's text were a
-- file.
abbrev pub IsLoadRunOf : Config → ℕ → ℕ → Report → Type 0
IsLoadRunOf config count n report = RunLedger (script_texts count n) (scripts count n) (plan_of config) report
