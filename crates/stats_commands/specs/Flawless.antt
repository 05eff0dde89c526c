-- Calls in which nothing goes wrong: what is at hand before, and the counts of faults that stand after. This project's
-- own.
use Rattle.std.specs.Prelude.{◌≡◌, ◌≢◌, ◌≤◌, ◌⊎◌, ℕ, Option, Some, None, Ok, List, length, codes}
use Rattle.std.specs.List.{AllByRecursion}
use Rattle.stat_defs.specs.Faults.{Rose}
use Rattle.stat_defs.specs.declared.configs.Config.{Config}
use Rattle.stat_defs.specs.declared.events.Event.{Event}
use Rattle.stat_defs.specs.declared.reports.FileEnd.TheVariants.{Whole}
use Rattle.stat_defs.specs.declared.reports.Report.{Report}
use Rattle.event_script.specs.Script.{File}
use Rattle.boot_file.specs.Boot.{boot}
use Rattle.boot_load.specs.declared.reading.TheConstants.{MAX_BOOT_BYTES}
use Rattle.stats_commands.specs.declared.status.TheConstants.{DONE, NO_MEMORY}
use Rattle.stats_commands.specs.declared.outcome.Outcome.{Outcome}
use Rattle.command_words.specs.Command.{Command, Run, Replay, Check, Bins, Load}
use Rattle.stats_commands.specs.Quiet.{quiet_command}
use Rattle.stats_commands.specs.World.{World, Sight}
use Rattle.stats_commands.specs.Outcome.{IsCall}

-- these are the bytes of the bootstrap, and they are told: `-` stands for `{}`
abbrev pub IsToldBoot : Option (List ℕ) → List ℕ → List ℕ → Type 0
IsToldBoot content name bytes =
    ((name ≡ codes "-") × (bytes ≡ codes "{}")) ⊎ ((name ≢ codes "-") × (content ≡ Some bytes))

-- the bootstrap of that name is within its limit and says a configuration
pub record IsFlawlessBoot (content : Option (List ℕ)) (name : List ℕ) : Type 0 where
  pub bytes : List ℕ
  pub told : IsToldBoot content name bytes
  pub short : length bytes ≤ MAX_BOOT_BYTES
  pub config : Config
  pub says : boot bytes ≡ Ok config

-- the content of the file is told, and is read whole
pub record IsFlawlessFile (content : Option (List ℕ)) : Type 0 where
  pub bytes : List ℕ
  pub told : content ≡ Some bytes
  pub events : List Event
  pub whole : File bytes events Whole

-- no count that the ends of a report tell rose: neither the shelf's over an opening, nor that of a file's source
abbrev pub EndsWithoutFaults : Option Report → Type 0
EndsWithoutFaults None = Unit {0}
EndsWithoutFaults (Some report) = AllByRecursion (λ end. ¬ Rose end.faults_before end.faults_after) report.ends

module _ {K F S O E : Type 0} (see : Sight K F S O E) (before after : World K F O E) where
  -- no count of faults rose: not the maker's, not the shelf's, not that of `out`, and none that the outcome tells,
  -- neither that of the bootstrap's source nor one of its report
  pub record HasNoFaults (outcome : Outcome) : Type 0 where
    pub maker : ¬ Rose (see.maker before.maker).count (see.maker after.maker).count
    pub shelf : ¬ Rose (see.shelf before.shelf).faults (see.shelf after.shelf).faults
    pub out : ¬ Rose (see.out before.out).faults (see.out after.out).faults
    pub boot_source : ¬ Rose 0 outcome.boot_faults
    pub ends : EndsWithoutFaults outcome.report

  -- the bootstrap and the files that the command names are faultless
  abbrev pub NamesFlawless : Command → Type 0
  NamesFlawless (Run options boot names) = IsFlawlessBoot (see.holds before.shelf boot) boot
      × AllByRecursion (λ name. IsFlawlessFile (see.holds before.shelf name)) names
  NamesFlawless (Replay options boot names) = IsFlawlessBoot (see.holds before.shelf boot) boot
      × AllByRecursion (λ name. IsFlawlessFile (see.holds before.shelf name)) names
  NamesFlawless (Check boot) = IsFlawlessBoot (see.holds before.shelf boot) boot
  NamesFlawless (Bins values) = Unit {0}
  NamesFlawless (Load run scripts n) = Unit {0}

  -- nothing went wrong in a call that the words say, which came to this outcome
  pub record IsFlawless (says : Option Command) (outcome : Outcome) : Type 0 where
    pub said : Command
    pub served : says ≡ Some said
    pub named : NamesFlawless said
    pub no_faults : HasNoFaults outcome

-- it did what it was asked to, or memory was wanting
abbrev pub IsDoneOrWants : ℕ → Type 0
IsDoneOrWants status = (status ≡ DONE) ⊎ (status ≡ NO_MEMORY)

-- Nothing fails without a cause: a call without threads in which nothing went wrong has status 0, or 6.
abbrev pub CallsFailByCause : {K F S O E : Type 0} → Sight K F S O E → Type 0
CallsFailByCause {K} {F} {S} {O} {E} see = (before after : World K F O E) (words : List (List ℕ)) (outcome : Outcome)
    → IsCall see before after (quiet_command words) outcome
    → IsFlawless see before after (quiet_command words) outcome
    → IsDoneOrWants outcome.status
