-- The report of a run can be shown.
use Rattle.std.proofs.Common.{◌≡◌, ◌≤◌, ℕ, Option, List, length, map, refl, sym, subst, arith}
use Rattle.std.proofs.lemmas.List.{length-map}
use Rattle.stat_defs.specs.Configs.{IsConfig}
use Rattle.stat_defs.specs.declared.configs.Config.{Config}
use Rattle.stats_io.specs.States.{SourceState, ShelfState}
use Rattle.book_state.specs.declared.limits.TheConstants.{MAX_WORKERS}
use Rattle.ledger.specs.Ledger.{HasNames, plan_of}
use Rattle.flush_view.proofs.LedgerNames.{names_of_ledgers}
use Rattle.flush_view.proofs.Showable.{ledgers_show}
use Rattle.file_reading.specs.declared.limits.TheConstants.{MAX_FILES}
use Rattle.file_reading.specs.FileRead.{FileRead}
use Rattle.run_report.specs.RunReport.{IsRunOf}
use Rattle.run_report.proofs.HeldAlike.{run_alike}
use Rattle.stats_commands.specs.Replay.{IsRecorded, Records}
use Rattle.stats_commands.specs.declared.replay.Recorded.{Recorded}

module _ {F S : Type 0} (shelf : F → ShelfState) (source : S → SourceState) where
  pub run_records : (holds : List ℕ → Option (List ℕ)) (names : List (List ℕ)) (before after : F) (recorded : Recorded)
      → IsConfig recorded.config → recorded.buckets ≡ recorded.config.buckets → length names ≤ MAX_FILES
      → IsRunOf shelf source holds recorded.config names before after recorded.report
      → HasNames (plan_of recorded.config).rules (length names) (record { report = recorded.report; names = recorded.names })
      → Records (IsRunOf shelf source holds) recorded.config names before after recorded
  run_records holds names before after recorded lawful buckets few is has =
      let many : length (map holds names) ≡ length names = length-map names holds in
      let within : length (map holds names) ≤ MAX_WORKERS = omega (arith, many, few) in
      record {
        config_is = refl;
        comes = is;
        recorded_is = record {
          names = names_of_ledgers.run recorded.config (map holds names) (map (λ (file : FileRead). file.events) is.files)
              (record { report = recorded.report; names = recorded.names }) is.ledger
              (subst (λ (workers : ℕ). HasNames (plan_of recorded.config).rules workers
              (record { report = recorded.report; names = recorded.names })) (sym many) has);
          buckets = buckets;
          showable = ledgers_show.run recorded.config (map holds names) (map (λ (file : FileRead). file.events) is.files) recorded.report
              lawful within is.ledger;
          few = omega (arith, is.ledger.read.an_end_each, many, few);
        };
      }

  -- the same over a shelf whose names hold the same
  pub run_records_alike : (one other : List ℕ → Option (List ℕ)) → ((name : List ℕ) → one name ≡ other name)
      → (config : Config) (names : List (List ℕ)) (before after : F) (recorded : Recorded)
      → Records (IsRunOf shelf source one) config names before after recorded
      → Records (IsRunOf shelf source other) config names before after recorded
  run_records_alike one other same config names before after recorded is = record {
    config_is = is.config_is;
    comes = run_alike shelf source one other same config names before after recorded.report is.comes;
    recorded_is = is.recorded_is;
  }
