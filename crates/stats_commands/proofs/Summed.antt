-- A load whose report came, and how its summary was written.
use Rattle.std.proofs.Common.{◌≡◌, ◌≢◌, ◌≤◌, ℕ, None, Ok, Err, length, codes, refl, ap, ◌∙◌, subst, inl, inr, arith}
use Rattle.std.specs.List.{range_with_len}
use Rattle.std.proofs.lemmas.List.{length-map}
use Rattle.std.proofs.lemmas.List.FromFn.{length-range_with_len}
use Rattle.stat_defs.specs.Configs.{IsConfig}
use Rattle.stat_defs.specs.declared.configs.Config.{Config}
use Rattle.stat_defs.specs.declared.reports.Report.{Report}
use Rattle.boot_load.specs.Load.{Loads}
use Rattle.boot_load.specs.declared.loading.Boot.{Boot}
use Rattle.boot_load.specs.declared.fault.LoadFault.{LoadFault}
use Rattle.boot_load.specs.declared.fault.LoadFault.TheVariants as unloaded
use Rattle.book_state.specs.declared.limits.TheConstants.{MAX_WORKERS}
use Rattle.ledger.specs.Ledger.{HasNames, plan_of}
use Rattle.flush_view.proofs.LedgerNames.{names_of_ledgers}
use Rattle.flush_view.proofs.Showable.{ledgers_show}
use Rattle.load_scripts.specs.declared.limits.TheConstants.{MAX_SCRIPTS}
use Rattle.load_scripts.specs.Load.{scripts, script_texts}
use Rattle.load_report.specs.LoadReport.{IsLoadOf}
use Rattle.load_text.specs.Summarized.{IsSummaryOf}
use Rattle.load_text.proofs.ReportsFit.{replay_has_room}
use Rattle.stats_commands.specs.World.{World, Sight}
use Rattle.stats_commands.specs.FaultLines.{out_of_memory}
use Rattle.stats_commands.specs.Outcome.{IsSaid, Summarizes}
use Rattle.stats_commands.specs.Replay.{RefusesBoot}
use Rattle.stats_commands.specs.declared.status.TheConstants.{NO_MEMORY}
use Rattle.stats_commands.specs.Summing.{Applies, TellsSummary}
use Rattle.stats_commands.specs.declared.replay.Recorded.{Recorded}
use Rattle.stats_commands.specs.declared.outcome.Outcome.{Outcome}
use Rattle.stats_commands.proofs.BootRefused.{refused_without_report, fault_or_unstarted}

-- so many texts as scripts
pub texts_many : (count n : ℕ) → length (script_texts count n) ≡ count
texts_many count n = length-map (range_with_len 1 count) _ ∙ length-range_with_len 1 count

-- the report of a load can be summed up
pub load_applies : (count n : ℕ) (recorded : Recorded) → count ≤ MAX_SCRIPTS → IsConfig recorded.config
    → recorded.buckets ≡ recorded.config.buckets → IsLoadOf recorded.config count n recorded.report
    → HasNames (plan_of recorded.config).rules 1 (record { report = recorded.report; names = recorded.names })
    → Applies IsLoadOf recorded.config count n recorded
load_applies count n recorded few lawful buckets is has =
    let many = texts_many count n in
    let within : length (script_texts count n) ≤ MAX_WORKERS = omega (arith, many, few) in
    record {
      config_is = refl;
      comes = is;
      summable = record {
        recorded_is = record {
          names = names_of_ledgers.replay recorded.config (script_texts count n) (scripts count n)
              (record { report = recorded.report; names = recorded.names }) is has;
          buckets = buckets;
          showable = ledgers_show.replay recorded.config (script_texts count n) (scripts count n) recorded.report lawful within is;
          few = omega (arith, is.read.an_end_each, many, few);
        };
        one = omega (arith, is.swept.number);
        room = replay_has_room recorded.config (script_texts count n) (scripts count n) recorded.report lawful within is;
      };
    }

module _ {K F S O E : Type 0} (see : Sight K F S O E) (before after : World K F O E)
    (Comes : Config → ℕ → ℕ → Report → Type 0) (count n : ℕ) where
  pub told_summary : (loaded : Boot) (recorded : Recorded) (outcome : Outcome)
      → Loads see.source (see.holds before.shelf (codes "-")) (codes "-") (see.shelf before.shelf) (see.shelf after.shelf)
      (see.maker before.maker) (see.maker after.maker) (Ok loaded)
      → after.shelf ≡ before.shelf → Applies Comes loaded.config count n recorded
      → outcome.report ≡ None → outcome.boot_faults ≡ 0
      → TellsSummary see.out before.out after.out (see.err before.err) (see.err after.err) recorded.config count n recorded.report outcome.status
      → Summarizes see before after Comes count n outcome
  told_summary loaded recorded outcome load usual applies none read (inl told) = record {
    report = none;
    shelf = usual;
    comes = inl (
      read,
      record {
        loaded = loaded;
        boot_loaded = load;
        report = recorded.report;
        comes = applies.comes;
        text = told.text;
        is_summary = subst (λ (c : Config). IsSummaryOf c count n recorded.report told.text) applies.config_is told.is_summary;
        printed = told.printed;
      },
    );
  }
  told_summary loaded recorded outcome load usual applies none read (inr up) =
      record { report = none; shelf = usual; comes = inr (inr (read, up)) }

  -- memory was wanting before anything was written
  pub summary_unstarted : (outcome : Outcome) → outcome ≡ record { status = NO_MEMORY; report = None; boot_faults = 0 }
      → after.shelf ≡ before.shelf → after.out ≡ before.out → IsSaid (see.err before.err) (see.err after.err) out_of_memory
      → Summarizes see before after Comes count n outcome
  summary_unstarted outcome is usual unwritten said = record {
    report = ap (λ (o : Outcome). o.report) is;
    shelf = usual;
    comes = inr (inr (
      ap (λ (o : Outcome). o.boot_faults) is,
      record { status_is = ap (λ (o : Outcome). o.status) is; unwritten = unwritten; said = said },
    ));
  }

  -- the usual bootstrap was refused
  pub summary_refused : (fault : LoadFault) (outcome : Outcome)
      → Loads see.source (see.holds before.shelf (codes "-")) (codes "-") (see.shelf before.shelf) (see.shelf after.shelf)
      (see.maker before.maker) (see.maker after.maker) (Err fault)
      → fault ≢ unloaded.NoMemory → after.out ≡ before.out → after.shelf ≡ before.shelf
      → RefusesBoot (see.err before.err) (see.err after.err) fault outcome → Summarizes see before after Comes count n outcome
  summary_refused fault outcome load some unwritten usual is = record {
    report = refused_without_report (see.err before.err) (see.err after.err) fault outcome is;
    shelf = usual;
    comes = inr (fault_or_unstarted see before after (codes "-") fault load some unwritten (λ same. usual) outcome is);
  }
