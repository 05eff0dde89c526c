-- What came of files that were read and applied. This project's own.
use Rattle.std.specs.Prelude.{◌≡◌, ◌≤◌, ◌*◌, ℕ, Option, List, [], ◌∷◌, length, map}
use Rattle.std.specs.List.{flat_map}
use Rattle.stat_defs.specs.declared.events.Event.{Event}
use Rattle.stat_defs.specs.declared.history.Verdict.{Verdict}
use Rattle.stat_defs.specs.declared.reports.LastFlush.{LastFlush}
use Rattle.stat_defs.specs.declared.reports.Report.{Report}
use Rattle.stat_defs.specs.declared.reports.Reported.{Reported}
use Rattle.stat_defs.specs.declared.reports.WorkerEnd.{WorkerEnd}
use Rattle.stats_io.specs.States.{SourceState, ShelfState}
use Rattle.event_script.specs.declared.limits.TheConstants.{MAX_EVENTS}
use Rattle.plain_store.specs.Store.{StoreHistory}
use Rattle.replay_files.specs.Applying.{AreApplied}
use Rattle.file_reading.specs.SourceRead.{IsSourceRead}
use Rattle.file_reading.specs.FileRead.{FileRead, IsFile, AreFiles, all_events}
use Rattle.file_reading.specs.declared.reading.FileRun.{FileRun}
use Rattle.replay_files.specs.declared.reading.Runs.{Runs}

-- the verdicts of all files, one file after another
abbrev pub all_verdicts : List (List Verdict) → List Verdict
all_verdicts verdicts = flat_map (λ of_file. of_file) verdicts

-- these verdicts and ends, the one flush and the log, and no readings
abbrev pub report_with : List (List Verdict) → List WorkerEnd → LastFlush → Report
report_with verdicts ends given = record {
  verdicts = verdicts;
  flushes = given.last ∷ [];
  log = given.log;
  reads = [];
  ends = ends;
}

-- the same, with the names in the log
abbrev pub reported_with : List (List Verdict) → List WorkerEnd → LastFlush → Reported
reported_with verdicts ends given = record { report = report_with verdicts ends given; names = given.names }

-- a source was read to its end, and its events were applied
pub record IsSourceRun {S : Type 0} (state : S → SourceState) (source : S) (earlier later : StoreHistory)
    (run : FileRun) : Type 0 where
  pub events : List Event
  pub read : IsSourceRead state source events run.end
  pub are_applied : AreApplied earlier events run.verdicts.items later

module _ {F S : Type 0} (shelf : F → ShelfState) (source : S → SourceState) (holds : List ℕ → Option (List ℕ)) where
  -- a file of a shelf was read to its end, and its events were applied
  pub record IsFileRun (name : List ℕ) (before after : F) (earlier later : StoreHistory) (run : FileRun) : Type 0 where
    pub events : List Event
    pub file : IsFile shelf source holds name before after (record { events = events; end = run.end })
    pub are_applied : AreApplied earlier events run.verdicts.items later
    pub few : length events ≤ MAX_EVENTS

  -- files of a shelf were read one after another, and their events were applied
  pub record AreRuns (names : List (List ℕ)) (before after : F) (earlier later : StoreHistory) (runs : Runs)
      : Type 0 where
    pub files : List FileRead
    pub are_files : AreFiles shelf source holds names before after files
    pub are_applied : AreApplied earlier (all_events files) (all_verdicts runs.verdicts.items) later
    pub a_verdict_each : map length runs.verdicts.items ≡ map length (map (λ file. file.events) files)
    pub ends_are : runs.ends.items ≡ map (λ file. file.end) files
    pub few : length (all_events files) ≤ length names * MAX_EVENTS
