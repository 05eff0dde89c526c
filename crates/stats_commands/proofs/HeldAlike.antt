-- A replay over a shelf whose names hold the same.
use Rattle.std.proofs.Common.{◌≡◌, ℕ, Option, List}
use Rattle.stat_defs.specs.declared.configs.Config.{Config}
use Rattle.stats_io.specs.States.{SourceState, ShelfState}
use Rattle.replay_files.specs.ReplayReport.{IsReplayOf}
use Rattle.replay_files.proofs.HeldAlike.{replay_alike}
use Rattle.stats_commands.specs.Replay.{Records}
use Rattle.stats_commands.specs.declared.replay.Recorded.{Recorded}

module _ {F S : Type 0} (shelf : F → ShelfState) (source : S → SourceState) where
  pub records_alike : (one other : List ℕ → Option (List ℕ)) → ((name : List ℕ) → one name ≡ other name)
      → (config : Config) (names : List (List ℕ)) (before after : F) (recorded : Recorded)
      → Records (IsReplayOf shelf source one) config names before after recorded
      → Records (IsReplayOf shelf source other) config names before after recorded
  records_alike one other same config names before after recorded is = record {
    config_is = is.config_is;
    comes = replay_alike shelf source one other same config names before after recorded.report is.comes;
    recorded_is = is.recorded_is;
  }
