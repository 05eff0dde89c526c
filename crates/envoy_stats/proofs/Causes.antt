-- A call of the program in which nothing went wrong has status 0, or memory was wanting.
use Rattle.std.proofs.Common.{◌≡◌, true, false, Some, refl}
use Rattle.run_report.specs.RunReport.{IsRunOf}
use Rattle.command_words.specs.Command.{Command, Run, Replay, Check, Bins, Load, command}
use Rattle.load_run.specs.LoadRun.{IsLoadRunOf}
use Rattle.stats_commands.specs.World.{World, Sight}
use Rattle.stats_commands.specs.Flawless.{NamesFlawless, IsDoneOrWants}
use Rattle.stats_commands.proofs.Causes.{done_reports, done_summary, done_quiet}
use Rattle.envoy_stats.specs.Running.{ProgramFailsByCause}

pub program_fails_by_cause : {K F S O E : Type 0} (see : Sight K F S O E) → ProgramFailsByCause see
program_fails_by_cause see before after words outcome is flawless = by flawless.said flawless.served flawless.named
  where
    by : (said : Command) → command words ≡ Some said → NamesFlawless see before after said → IsDoneOrWants outcome.status
    by (Run options boot names) e named =
        done_reports see before after (IsRunOf see.shelf see.source (see.holds before.shelf))
        (λ config names old new report comes. record { files = comes.files; are_files = comes.are_files; ends = comes.ends })
        options boot names named.0 named.1 outcome flawless.no_faults (is.ran options boot names e)
    by (Replay options boot names) e named =
        done_quiet see before after outcome flawless.no_faults (Replay options boot names) (command words) is.call e refl named
    by (Check boot) e named =
        done_quiet see before after outcome flawless.no_faults (Check boot) (command words) is.call e refl named
    by (Bins values) e named =
        done_quiet see before after outcome flawless.no_faults (Bins values) (command words) is.call e refl named
    by (Load true scripts n) e named =
        done_summary see before after outcome flawless.no_faults IsLoadRunOf scripts n (is.loaded scripts n e)
    by (Load false scripts n) e named =
        done_quiet see before after outcome flawless.no_faults (Load false scripts n) (command words) is.call e refl named
