-- What is told of a run of scripts, whatever the threads did. This project's own.
use Rattle.std.specs.Prelude.{◌≡◌, ◌≤◌, ℕ}
use Rattle.stat_defs.specs.declared.configs.Config.{Config}
use Rattle.stat_defs.specs.declared.reports.Report.{Report}
use Rattle.stat_defs.specs.declared.views.FlushView.{FlushView}
use Rattle.load_scripts.specs.declared.limits.TheConstants.{MAX_SCRIPTS}
use Rattle.load_scripts.specs.Load.{script_texts, scripts}
use Rattle.ledger.specs.Ledger.{ReplayLedger, plan_of}
use Rattle.flush_view.specs.Views.{IsView}
use Rattle.load_text.specs.Summary.{summary}
use Rattle.load_run.specs.LoadRun.{IsLoadRunOf}

-- Where a configuration asks for no flush but the last and for no reading, what is told of a run of scripts is what is
-- told of a replay of them.
abbrev pub SameSummary : Type 0
SameSummary = (config : Config) (count n : ℕ) (run replay : Report) (shown other : FlushView)
    → config.flushes ≡ 0 → config.reads ≡ 0 → count ≤ MAX_SCRIPTS
    → IsLoadRunOf config count n run
    → ReplayLedger (script_texts count n) (scripts count n) (plan_of config) replay
    → IsView config run 0 shown → IsView config replay 0 other
    → summary count n run.verdicts shown ≡ summary count n replay.verdicts other
