-- A replay over a shelf whose names hold the same.
use Rattle.std.proofs.Common.{◌≡◌, ℕ, Option, List, map, subst}
use Rattle.stat_defs.specs.declared.configs.Config.{Config}
use Rattle.stat_defs.specs.declared.reports.Report.{Report}
use Rattle.stats_io.specs.States.{SourceState, ShelfState}
use Rattle.ledger.specs.Ledger.{ReplayLedger, plan_of}
use Rattle.file_reading.specs.FileRead.{FileRead}
use Rattle.file_reading.proofs.HeldAlike.{same_contents, files_alike}
use Rattle.replay_files.specs.ReplayReport.{IsReplayOf}

module _ {F S : Type 0} (shelf : F → ShelfState) (source : S → SourceState) where
  -- a replay is the same where the names hold the same
  pub replay_alike : (one other : List ℕ → Option (List ℕ)) → ((name : List ℕ) → one name ≡ other name)
      → (config : Config) (names : List (List ℕ)) (before after : F) (report : Report)
      → IsReplayOf shelf source one config names before after report
      → IsReplayOf shelf source other config names before after report
  replay_alike one other same config names before after report is = record {
    files = is.files;
    are_files = files_alike shelf source one other same names before after is.files is.are_files;
    ends = is.ends;
    ledger = subst (λ (contents : List (Option (List ℕ))).
        ReplayLedger contents (map (λ (file : FileRead). file.events) is.files) (plan_of config) report)
        (same_contents one other same names) is.ledger;
  }
