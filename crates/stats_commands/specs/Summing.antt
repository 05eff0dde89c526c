-- How a load comes to its report and ends with its summary. This project's own.
use Rattle.std.specs.Prelude.{◌≡◌, ◌⊎◌, ℕ, List, length}
use Rattle.stat_defs.specs.declared.configs.Config.{Config}
use Rattle.stat_defs.specs.declared.reports.Report.{Report}
use Rattle.stats_io.specs.States.{SinkState}
use Rattle.load_text.specs.Summarized.{HasRoom, IsSummaryOf}
use Rattle.stats_commands.specs.declared.replay.Recorded.{Recorded}
use Rattle.stats_commands.specs.Outcome.{IsPrinted, IsUnstarted}
use Rattle.stats_commands.specs.Replay.{IsRecorded}

-- the report can be shown, and its one flush can be summed up
pub record IsSummable (recorded : Recorded) : Type 0 where
  pub recorded_is : IsRecorded recorded
  pub one : length recorded.report.flushes ≡ 1
  pub room : HasRoom recorded.config recorded.report

-- the report that comes of so many scripts of so many events under that configuration, and can be summed up
pub record Applies (Comes : Config → ℕ → ℕ → Report → Type 0) (config : Config) (scripts n : ℕ) (recorded : Recorded)
    : Type 0 where
  pub config_is : recorded.config ≡ config
  pub comes : Comes config scripts n recorded.report
  pub summable : IsSummable recorded

-- the summary of a report was written, or a front of it
pub record IsTold (config : Config) (scripts n : ℕ) (report : Report) (out_before out_after err_before err_after : SinkState)
    (status : ℕ) : Type 0 where
  pub text : List ℕ
  pub is_summary : IsSummaryOf config scripts n report text
  pub printed : IsPrinted out_before out_after err_before err_after text status

-- the same, where memory is there
abbrev pub TellsSummary : {O : Type 0} → (O → SinkState) → O → O → SinkState → SinkState → Config → ℕ → ℕ → Report → ℕ → Type 0
TellsSummary state out_before out_after err_before err_after config scripts n report status =
    IsTold config scripts n report (state out_before) (state out_after) err_before err_after status
    ⊎ IsUnstarted out_before out_after err_before err_after status
