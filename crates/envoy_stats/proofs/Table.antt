-- Each call of the program keeps the table of statuses.
use Rattle.std.proofs.Common.{◌≡◌, true, false, Option, Some, None, refl}
use Rattle.run_report.specs.RunReport.{IsRunOf}
use Rattle.command_words.specs.Command.{Command, Run, Replay, Check, Bins, Load, command}
use Rattle.load_run.specs.LoadRun.{IsLoadRunOf}
use Rattle.stats_commands.specs.World.{World, Sight}
use Rattle.stats_commands.specs.Statuses.{KeepsTable}
use Rattle.stats_commands.proofs.Table.{of_quiet, of_refused, of_reports, of_summary}
use Rattle.envoy_stats.specs.Running.{ProgramKeepsTable}

pub program_keeps : {K F S O E : Type 0} (see : Sight K F S O E) → ProgramKeepsTable see
program_keeps see before after words outcome is = by (command words) refl
  where
    by : (said : Option Command) → command words ≡ said → KeepsTable see before after (command words) outcome.status outcome.report
    by None e = of_refused see before after outcome (command words) is.call e
    by (Some (Run options boot names)) e =
        of_reports see before after (command words) (IsRunOf see.shelf see.source (see.holds before.shelf)) options boot names
        outcome.status outcome.report outcome.boot_faults (is.ran options boot names e)
    by (Some (Replay options boot names)) e =
        of_quiet see before after outcome (Replay options boot names) (command words) is.call e refl
    by (Some (Check boot)) e = of_quiet see before after outcome (Check boot) (command words) is.call e refl
    by (Some (Bins values)) e = of_quiet see before after outcome (Bins values) (command words) is.call e refl
    by (Some (Load true scripts n)) e =
        of_summary see before after outcome (command words) IsLoadRunOf scripts n (is.loaded scripts n e)
    by (Some (Load false scripts n)) e =
        of_quiet see before after outcome (Load false scripts n) (command words) is.call e refl
