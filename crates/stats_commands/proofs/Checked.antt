-- A bootstrap that was loaded for a check, or for which memory was wanting.
use Rattle.std.proofs.Common.{◌≡◌, ℕ, None, Ok, List, codes, refl, ap, inl, inr}
use Rattle.stats_io.specs.States.{SinkState}
use Rattle.boot_load.specs.Load.{Loads}
use Rattle.boot_load.specs.declared.loading.Boot.{Boot}
use Rattle.stats_commands.specs.World.{World, Sight}
use Rattle.stats_commands.specs.FaultLines.{out_of_memory}
use Rattle.stats_commands.specs.LoadedLine.{loaded_line}
use Rattle.stats_commands.specs.Outcome.{IsSaid, IsUnstarted, Prints, Checks}
use Rattle.stats_commands.specs.declared.status.TheConstants.{NO_MEMORY}
use Rattle.stats_commands.specs.declared.outcome.Outcome.{Outcome}

-- a call that gave up before anything was written
pub unstarted : {O : Type 0} (out : O) (before after : SinkState) (outcome : Outcome) → outcome ≡ record { status = NO_MEMORY; report = None; boot_faults = 0 }
    → IsSaid before after out_of_memory → (outcome.boot_faults ≡ 0) × IsUnstarted out out before after outcome.status
unstarted out before after outcome is said = (
  ap (λ (o : Outcome). o.boot_faults) is,
  record { status_is = ap (λ (o : Outcome). o.status) is; unwritten = refl; said = said },
)

module _ {K F S O E : Type 0} (see : Sight K F S O E) (before after : World K F O E) (boot : List ℕ) (loaded : Boot) (status boot_faults : ℕ)
    (load : Loads see.source (see.holds before.shelf boot) boot (see.shelf before.shelf) (see.shelf after.shelf) (see.maker before.maker) (see.maker after.maker) (Ok loaded))
    (usual : boot ≡ codes "-" → after.shelf ≡ before.shelf) (read : boot_faults ≡ 0) where
  pub check_loaded : Prints see.out before.out after.out (see.err before.err) (see.err after.err) (loaded_line loaded.config) status
      → Checks see before after boot status boot_faults
  check_loaded (inl printed) = inl (read, record { loaded = loaded; boot_loaded = load; usual = usual; printed = printed })
  check_loaded (inr up) = inr (inr (read, up))
