-- The report of scripts that are applied one after another. This project's own.
use Rattle.std.specs.Prelude.{ℕ}
use Rattle.stat_defs.specs.declared.configs.Config.{Config}
use Rattle.stat_defs.specs.declared.reports.Report.{Report}
use Rattle.ledger.specs.Ledger.{ReplayLedger, plan_of}
use Rattle.load_scripts.specs.Load.{scripts, script_texts}

-- The ledger of a replay of the events of so many scripts of so many events each, as if each script's text were a file.
abbrev pub IsLoadOf : Config → ℕ → ℕ → Report → Type 0
IsLoadOf config count n report = ReplayLedger (script_texts count n) (scripts count n) (plan_of config) report
