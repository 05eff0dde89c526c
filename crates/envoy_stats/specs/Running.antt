-- The program: what comes of a run, and of every other command. This project's own.
use Rattle.std.specs.Prelude.{◌≡◌, ℕ, true, false, Some, List}
use Rattle.output_options.specs.declared.OutputOptions.{OutputOptions}
use Rattle.run_report.specs.RunReport.{IsRunOf}
use Rattle.stats_commands.specs.declared.outcome.Outcome.{Outcome}
use Rattle.stats_io.specs.Push.{WritesWhole}
use Rattle.command_words.specs.Command.{Run, Load, command}
use Rattle.load_run.specs.LoadRun.{IsLoadRunOf}
use Rattle.stats_commands.specs.declared.status.TheConstants.{DONE}
use Rattle.stats_commands.specs.World.{World, Sight}
use Rattle.stats_commands.specs.Outcome.{Reports, Summarizes, IsCall}
use Rattle.stats_commands.specs.Statuses.{KeepsTable}
use Rattle.stats_commands.specs.Flawless.{IsFlawless, IsDoneOrWants}

module _ {K F S O E : Type 0} (see : Sight K F S O E) (before after : World K F O E) where
  -- the files were run, a worker a file, and the text of the report was written
  abbrev pub Runs : OutputOptions → List ℕ → List (List ℕ) → Outcome → Type 0
  Runs options boot names outcome = Reports see before after (IsRunOf see.shelf see.source (see.holds before.shelf))
      options boot names outcome.status outcome.report outcome.boot_faults

  -- What a call of the program does: that of `quiet_stats`, and two cases more. The report of a run is one that a worker a
  -- file, a flusher and a reader may come to, in some interleaving of their steps, and that of a load side by side one of a
  -- worker a script. That they go on side by side, that flushes and readings come from the running store, and that every
  -- other command starts no thread, is in no contract: tests show the first two, and the other commands take no handle.
  pub record IsProgramCall (words : List (List ℕ)) (outcome : Outcome) : Type 0 where
    pub call : IsCall see before after (command words) outcome
    pub ran : (options : OutputOptions) (boot : List ℕ) (names : List (List ℕ))
        → command words ≡ Some (Run options boot names) → Runs options boot names outcome
    pub loaded : (scripts n : ℕ) → command words ≡ Some (Load true scripts n)
        → Summarizes see before after IsLoadRunOf scripts n outcome

  -- a call of the program came to this status
  abbrev pub Serves : List (List ℕ) → ℕ → Type 0
  Serves words status = (outcome : Outcome) × (outcome.status ≡ status) × IsProgramCall words outcome

-- each call of the program keeps the table of statuses, which says what each of them means
abbrev pub ProgramKeepsTable : {K F S O E : Type 0} → Sight K F S O E → Type 0
ProgramKeepsTable {K} {F} {S} {O} {E} see = (before after : World K F O E) (words : List (List ℕ)) (outcome : Outcome)
    → IsProgramCall see before after words outcome
    → KeepsTable see before after (command words) outcome.status outcome.report

-- Nothing fails without a cause: a call of the program in which nothing went wrong has status 0, or 6.
abbrev pub ProgramFailsByCause : {K F S O E : Type 0} → Sight K F S O E → Type 0
ProgramFailsByCause {K} {F} {S} {O} {E} see = (before after : World K F O E) (words : List (List ℕ)) (outcome : Outcome)
    → IsProgramCall see before after words outcome
    → IsFlawless see before after (command words) outcome
    → IsDoneOrWants outcome.status

-- One text was written by both of two calls: a load side by side writes what a load of as many scripts and events writes
-- that starts no thread.
abbrev pub LoadsAlike : {K F S O E : Type 0} → Sight K F S O E → Type 0
LoadsAlike {K} {F} {S} {O} {E} see = (before after old new : World K F O E) (words others : List (List ℕ))
    (outcome other : Outcome) (scripts n : ℕ)
    → command words ≡ Some (Load false scripts n) → IsProgramCall see before after words outcome → outcome.status ≡ DONE
    → command others ≡ Some (Load true scripts n) → IsProgramCall see old new others other → other.status ≡ DONE
    → (text : List ℕ) × WritesWhole (see.out before.out) (see.out after.out) text
    × WritesWhole (see.out old.out) (see.out new.out) text
