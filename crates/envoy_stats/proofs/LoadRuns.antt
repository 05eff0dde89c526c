-- A load side by side, and what it writes.
use Rattle.std.proofs.Common.{◌≡◌, ◌≢◌, ◌≤◌, ◌⊎◌, ◌∙◌, ℕ, true, false, Ok, Some, Option, List, length, codes, refl, sym, ap, subst, inl, inr, arith}
use Rattle.stat_defs.specs.Configs.{IsConfig}
use Rattle.stat_defs.specs.declared.configs.Config.{Config}
use Rattle.stat_defs.specs.declared.reports.Report.{Report}
use Rattle.stats_io.specs.States.{SourceState}
use Rattle.stats_io.specs.Push.{WritesWhole}
use Rattle.boot_file.specs.Boot.{boot}
use Rattle.boot_file.proofs.Empty.{usual_config, usual_boots}
use Rattle.boot_load.specs.Load.{IsBoot, IsConfigured}
use Rattle.book_state.specs.declared.limits.TheConstants.{MAX_WORKERS}
use Rattle.ledger.specs.Ledger.{HasNames, plan_of}
use Rattle.flush_view.proofs.LedgerNames.{names_of_ledgers}
use Rattle.flush_view.proofs.Showable.{ledgers_show}
use Rattle.command_words.specs.Command.{Load, command}
use Rattle.load_scripts.specs.declared.limits.TheConstants.{MAX_SCRIPTS, MAX_SCRIPT_EVENTS}
use Rattle.load_scripts.specs.Load.{scripts, script_texts}
use Rattle.load_report.specs.LoadReport.{IsLoadOf}
use Rattle.load_run.specs.LoadRun.{IsLoadRunOf}
use Rattle.load_run.specs.Laws.{SameSummary}
use Rattle.load_text.specs.Summarized.{IsSummaryOf}
use Rattle.load_text.proofs.ReportsFit.{run_has_room}
use Rattle.command_words.proofs.LoadsWithin.{load_within}
use Rattle.envoy_stats.specs.Running.{LoadsAlike}
use Rattle.boot_load.specs.declared.fault.LoadFault.{LoadFault}
use Rattle.boot_load.specs.declared.fault.LoadFault.TheVariants.{TooBig, Faulty, BadPattern, OpenFailed, ReadFailed, NoMemory}
use Rattle.stats_commands.specs.World.{World, Sight}
use Rattle.stats_commands.specs.Outcome.{status_of_boot, IsWritten, IsUnstarted, IsBootFault, IsSummarized, Summarizes}
use Rattle.stats_commands.specs.Summing.{Applies}
use Rattle.stats_commands.specs.declared.replay.Recorded.{Recorded}
use Rattle.stats_commands.specs.declared.outcome.Outcome.{Outcome}
use Rattle.stats_commands.specs.declared.status.TheConstants.{DONE}
use Rattle.stats_commands.proofs.Summed.{texts_many}

-- the usual bootstrap says one configuration
pub usual_is : {S : Type 0} (source : S → SourceState) (content : Option (List ℕ)) (config : Config)
    → IsConfigured source content (codes "-") config → config ≡ usual_config
usual_is source content config is = by is.is_boot.bytes_are
  where
    by : IsBoot content (codes "-") is.bytes → config ≡ usual_config
    by (inl usual) =
        let both : Ok config ≡ Ok usual_config = sym is.says ∙ (ap (λ (bs : List ℕ). boot bs) usual.1 ∙ usual_boots) in cc
    by (inr file) = absurd (file.0 refl)

-- no bootstrap that was refused has status 0
boot_is_not_done : (fault : LoadFault) → status_of_boot fault ≢ DONE
boot_is_not_done TooBig e = absurd (omega (arith, e))
boot_is_not_done (Faulty fault) e = absurd (omega (arith, e))
boot_is_not_done (BadPattern path) e = absurd (omega (arith, e))
boot_is_not_done OpenFailed e = absurd (omega (arith, e))
boot_is_not_done (ReadFailed count) e = absurd (omega (arith, e))
boot_is_not_done NoMemory e = absurd (omega (arith, e))

-- the report of a load side by side can be summed up
pub load_runs : (count n : ℕ) (recorded : Recorded) → count ≤ MAX_SCRIPTS → IsConfig recorded.config → recorded.config.flushes ≡ 0
    → recorded.buckets ≡ recorded.config.buckets → IsLoadRunOf recorded.config count n recorded.report
    → HasNames (plan_of recorded.config).rules count (record { report = recorded.report; names = recorded.names })
    → Applies IsLoadRunOf recorded.config count n recorded
load_runs count n recorded few lawful none buckets is has =
    let many = texts_many count n in
    let within : length (script_texts count n) ≤ MAX_WORKERS = omega (arith, many, few) in
    record {
      config_is = refl;
      comes = is;
      summable = record {
        recorded_is = record {
          names = names_of_ledgers.run recorded.config (script_texts count n) (scripts count n)
              (record { report = recorded.report; names = recorded.names }) is
              (subst (λ (workers : ℕ). HasNames (plan_of recorded.config).rules workers
              (record { report = recorded.report; names = recorded.names })) (sym many) has);
          buckets = buckets;
          showable = ledgers_show.run recorded.config (script_texts count n) (scripts count n) recorded.report lawful within is;
          few = omega (arith, is.read.an_end_each, many, few);
        };
        one = omega (arith, is.swept.number, none);
        room = run_has_room recorded.config (script_texts count n) (scripts count n) recorded.report lawful within none is;
      };
    }

module _ {K F S O E : Type 0} (see : Sight K F S O E) where
  -- what a load that succeeded has written
  summed : (before after : World K F O E) (Comes : Config → ℕ → ℕ → Report → Type 0) (count n : ℕ) (outcome : Outcome)
      → outcome.status ≡ DONE → Summarizes see before after Comes count n outcome
      → IsSummarized see before after Comes count n outcome.status
  summed before after Comes count n outcome done is = by is.comes
    where
      by : ((outcome.boot_faults ≡ 0) × IsSummarized see before after Comes count n outcome.status)
          ⊎ (IsBootFault see before after (codes "-") outcome.status outcome.boot_faults ⊎ ((outcome.boot_faults ≡ 0)
          × IsUnstarted before.out after.out (see.err before.err) (see.err after.err) outcome.status))
          → IsSummarized see before after Comes count n outcome.status
      by (inl told) = told.1
      by (inr (inl fault)) = absurd (boot_is_not_done fault.fault (sym fault.status_is ∙ done))
      by (inr (inr up)) = absurd (omega (arith, up.1.status_is, done))

  whole : (before after : World K F O E) (text : List ℕ) (status : ℕ) → status ≡ DONE
      → IsWritten (see.out before.out) (see.out after.out) text DONE status → WritesWhole (see.out before.out) (see.out after.out) text
  whole before after text status done (inl is) = is.1
  whole before after text status done (inr cut) = absurd (omega (arith, cut.0, done))

  pub loads_alike : SameSummary → LoadsAlike see
  loads_alike same_summary before after old new words others outcome other count n says is done too also ended =
      let within = load_within words false count n says in
      let one = summed before after IsLoadOf count n outcome done (is.call.loaded count n says) in
      let next = summed old new IsLoadRunOf count n other ended (also.loaded count n too) in
      let first : one.loaded.config ≡ usual_config =
      usual_is see.source (see.holds before.shelf (codes "-")) one.loaded.config one.boot_loaded.config in
      let second : next.loaded.config ≡ usual_config =
      usual_is see.source (see.holds old.shelf (codes "-")) next.loaded.config next.boot_loaded.config in
      let replayed = subst (λ (c : Config). IsLoadOf c count n one.report) first one.comes in
      let ran = subst (λ (c : Config). IsLoadRunOf c count n next.report) second next.comes in
      let seen = subst (λ (c : Config). IsSummaryOf c count n one.report one.text) first one.is_summary in
      let shown = subst (λ (c : Config). IsSummaryOf c count n next.report next.text) second next.is_summary in
      let same : next.text ≡ one.text = shown.text_is
      ∙ (same_summary usual_config count n next.report one.report shown.shown seen.shown refl refl within.0 ran replayed
      shown.is_view seen.is_view ∙ sym seen.text_is) in (
        one.text,
        whole before after one.text outcome.status done one.printed.written,
        subst (λ (t : List ℕ). WritesWhole (see.out old.out) (see.out new.out) t) same
            (whole old new next.text other.status ended next.printed.written),
      )
