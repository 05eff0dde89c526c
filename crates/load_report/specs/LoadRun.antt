-- What came of scripts that were applied. This project's own.
use Rattle.std.specs.Prelude.{◌≡◌, ℕ, List, length, map, replicate}
use Rattle.std.specs.List.{flat_map}
use Rattle.stat_defs.specs.declared.events.Event.{Event}
use Rattle.stat_defs.specs.declared.history.Verdict.{Verdict}
use Rattle.stat_defs.specs.declared.reports.FileEnd.TheVariants.{Whole}
use Rattle.stat_defs.specs.declared.reports.WorkerEnd.{WorkerEnd}
use Rattle.load_scripts.specs.Load.{scripts}
use Rattle.plain_store.specs.Store.{StoreHistory}
use Rattle.replay_files.specs.Applying.{AreApplied}
use Rattle.replay_files.specs.FileRun.{all_verdicts}

-- the events of so many scripts of so many events each, one script after another
abbrev pub all_script_events : ℕ → ℕ → List Event
all_script_events count n = flat_map (λ of_script. of_script) (scripts count n)

-- the events of the scripts were applied, and each has a verdict in the list of its script
pub record AreScriptsApplied (old : StoreHistory) (count n : ℕ) (verdicts : List (List Verdict))
    (new : StoreHistory) : Type 0 where
  pub are_applied : AreApplied old (all_script_events count n) (all_verdicts verdicts) new
  pub a_verdict_each : map length verdicts ≡ map length (scripts count n)

-- a script is whole, and there is no source whose faults or bytes are counted
abbrev pub whole_end : WorkerEnd
whole_end = record { end = Whole; taken = 0; faults_before = 0; faults_after = 0 }

-- the ends of so many scripts
abbrev pub script_ends : ℕ → List WorkerEnd
script_ends count = replicate count whole_end
