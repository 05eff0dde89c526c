-- A bootstrap that was not loaded.
use Rattle.std.proofs.Common.{◌≡◌, ◌≢◌, ◌⊎◌, ℕ, None, Err, List, codes, refl, sym, ap, subst, inl, inr, arith}
use Rattle.stat_defs.specs.declared.configs.Config.{Config}
use Rattle.stat_defs.specs.declared.reports.Report.{Report}
use Rattle.stats_io.specs.States.{SinkState}
use Rattle.boot_load.specs.Load.{Loads}
use Rattle.boot_load.specs.BootLine.{boot_line}
use Rattle.boot_load.specs.declared.fault.LoadFault.{LoadFault}
use Rattle.boot_load.specs.declared.fault.LoadFault.TheVariants.{TooBig, Faulty, BadPattern, OpenFailed, ReadFailed, NoMemory}
use Rattle.output_options.specs.declared.OutputOptions.{OutputOptions}
use Rattle.stats_commands.specs.World.{World, Sight}
use Rattle.stats_commands.specs.Outcome.{IsSaid, IsUnstarted, IsBootFault, Checks, Reports, status_of_boot, boot_faults_of}
use Rattle.stats_commands.specs.Replay.{RefusesBoot}
use Rattle.stats_commands.specs.declared.status.TheConstants.{NO_COMMAND}
use Rattle.stats_commands.specs.declared.outcome.Outcome.{Outcome}

-- no bootstrap has the status of words that are no command
pub boot_is_no_usage : (fault : LoadFault) → status_of_boot fault ≢ NO_COMMAND
boot_is_no_usage TooBig e = absurd (omega (arith, e))
boot_is_no_usage (Faulty fault) e = absurd (omega (arith, e))
boot_is_no_usage (BadPattern path) e = absurd (omega (arith, e))
boot_is_no_usage OpenFailed e = absurd (omega (arith, e))
boot_is_no_usage (ReadFailed count) e = absurd (omega (arith, e))
boot_is_no_usage NoMemory e = absurd (omega (arith, e))

pub refused_without_report : (before after : SinkState) (fault : LoadFault) (outcome : Outcome) → RefusesBoot before after fault outcome → outcome.report ≡ None
refused_without_report before after fault outcome (inl is) = ap (λ (o : Outcome). o.report) is.0
refused_without_report before after fault outcome (inr is) = ap (λ (o : Outcome). o.report) is.0

module _ {K F S O E : Type 0} (see : Sight K F S O E) (before after : World K F O E) (boot : List ℕ) (fault : LoadFault)
    (load : Loads see.source (see.holds before.shelf boot) boot (see.shelf before.shelf) (see.shelf after.shelf) (see.maker before.maker) (see.maker after.maker) (Err fault))
    (has : fault ≢ NoMemory) (unwritten : after.out ≡ before.out) (usual : boot ≡ codes "-" → after.shelf ≡ before.shelf) where
  is_boot_fault : (status boot_faults : ℕ) → status ≡ status_of_boot fault → boot_faults ≡ boot_faults_of fault
      → IsSaid (see.err before.err) (see.err after.err) (boot_line fault) → IsBootFault see before after boot status boot_faults
  is_boot_fault status boot_faults is are said = record {
    fault = fault;
    cause = load;
    no_want = has;
    status_is = is;
    boot_faults_are = are;
    unwritten = unwritten;
    usual = usual;
    said = said;
  }

  pub report_refused : (Comes : Config → List (List ℕ) → F → F → Report → Type 0) (options : OutputOptions) (names : List (List ℕ)) (outcome : Outcome) → RefusesBoot (see.err before.err) (see.err after.err) fault outcome
      → Reports see before after Comes options boot names outcome.status outcome.report outcome.boot_faults
  report_refused Comes options names outcome (inl is) =
      subst (λ (o : Outcome). Reports see before after Comes options boot names o.status o.report o.boot_faults) (sym is.0)
      (inl (is_boot_fault (status_of_boot fault) (boot_faults_of fault) refl refl is.1))
  report_refused Comes options names outcome (inr is) =
      subst (λ (o : Outcome). Reports see before after Comes options boot names o.status o.report o.boot_faults) (sym is.0)
      (inr (refl, record { status_is = refl; written = inl unwritten; said = is.1 }))

  -- that was said, or that memory was wanting
  pub fault_or_unstarted : (outcome : Outcome) → RefusesBoot (see.err before.err) (see.err after.err) fault outcome
      → IsBootFault see before after boot outcome.status outcome.boot_faults
      ⊎ ((outcome.boot_faults ≡ 0) × IsUnstarted before.out after.out (see.err before.err) (see.err after.err) outcome.status)
  fault_or_unstarted outcome (inl is) = inl (
      is_boot_fault outcome.status outcome.boot_faults (ap (λ (o : Outcome). o.status) is.0) (ap (λ (o : Outcome). o.boot_faults) is.0) is.1
      )
  fault_or_unstarted outcome (inr is) = inr (
    ap (λ (o : Outcome). o.boot_faults) is.0,
    record { status_is = ap (λ (o : Outcome). o.status) is.0; unwritten = unwritten; said = is.1 },
  )

  pub check_refused : (outcome : Outcome) → RefusesBoot (see.err before.err) (see.err after.err) fault outcome
      → Checks see before after boot outcome.status outcome.boot_faults
  check_refused outcome is = inr (fault_or_unstarted outcome is)
