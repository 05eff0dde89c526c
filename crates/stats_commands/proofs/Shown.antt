-- The report of a replay can be shown.
use Rattle.std.proofs.Common.{◌≡◌, ◌≤◌, ℕ, Option, List, length, map, refl, arith}
use Rattle.std.proofs.lemmas.List.{length-map}
use Rattle.stat_defs.specs.Configs.{IsConfig}
use Rattle.stats_io.specs.States.{SourceState, ShelfState}
use Rattle.book_state.specs.declared.limits.TheConstants.{MAX_WORKERS}
use Rattle.ledger.specs.Ledger.{HasNames, plan_of}
use Rattle.flush_view.proofs.LedgerNames.{names_of_ledgers}
use Rattle.flush_view.proofs.Showable.{ledgers_show}
use Rattle.file_reading.specs.declared.limits.TheConstants.{MAX_FILES}
use Rattle.file_reading.specs.FileRead.{FileRead}
use Rattle.replay_files.specs.ReplayReport.{IsReplayOf}
use Rattle.stats_commands.specs.Replay.{Records}
use Rattle.stats_commands.specs.declared.replay.Recorded.{Recorded}

module _ {F S : Type 0} (shelf : F → ShelfState) (source : S → SourceState) (holds : List ℕ → Option (List ℕ)) where
  pub records : (names : List (List ℕ)) (before after : F) (recorded : Recorded)
      → IsConfig recorded.config → recorded.buckets ≡ recorded.config.buckets → length names ≤ MAX_FILES
      → IsReplayOf shelf source holds recorded.config names before after recorded.report
      → HasNames (plan_of recorded.config).rules 1 (record { report = recorded.report; names = recorded.names })
      → Records (IsReplayOf shelf source holds) recorded.config names before after recorded
  records names before after recorded lawful buckets few is has =
      let many : length (map holds names) ≡ length names = length-map names holds in
      let within : length (map holds names) ≤ MAX_WORKERS = omega (arith, many, few) in
      record {
        config_is = refl;
        comes = is;
        recorded_is = record {
          names = names_of_ledgers.replay recorded.config (map holds names) (map (λ (file : FileRead). file.events) is.files)
              (record { report = recorded.report; names = recorded.names }) is.ledger has;
          buckets = buckets;
          showable = ledgers_show.replay recorded.config (map holds names) (map (λ (file : FileRead). file.events) is.files) recorded.report
              lawful within is.ledger;
          few = omega (arith, is.ledger.read.an_end_each, many, few);
        };
      }
