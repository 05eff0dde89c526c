-- What a worker of a run did with its file (this project's own).
use Rattle.std.specs.Prelude.{◌≡◌, ℕ, List, [], length}
use Rattle.stat_defs.specs.declared.events.Event.{Event}
use Rattle.stat_defs.specs.declared.history.Verdict.{Verdict}
use Rattle.stat_defs.specs.declared.reports.FileEnd.TheVariants.{NotOpened}
use Rattle.stat_defs.specs.declared.reports.WorkerEnd.{WorkerEnd}
use Rattle.stats_io.specs.States.{SourceState}
use Rattle.file_reading.specs.SourceRead.{IsSourceRead, end_told}
use Rattle.ledger.specs.Work.{events_in, verdicts_in}
use Rattle.store_parts.specs.declared.store.Store.{Store}
use Rattle.recorder.specs.Following.{HasFollowedAll}
use Rattle.recorder.specs.Knowing.{RecorderKnown}
use Rattle.recorder.specs.Tied.{IsWorkerOf, HasEnded, HasFollowedToEnd}
use Rattle.worker_run.specs.declared.given.Given.{Given}
use Rattle.worker_run.specs.declared.given.Given.TheVariants.{Opened, Missing}
use Rattle.worker_run.specs.declared.given.Worked.{Worked}

-- The events of a file, and how it ended. A source was read to its end; a file that could not be opened has no events.
abbrev pub IsFileRead : {S : Type 0} → (S → SourceState) → Given S → List Event → WorkerEnd → Type 0
IsFileRead state (Opened source) events end = IsSourceRead state source events end
IsFileRead state Missing events end = (events ≡ []) × (end ≡ end_told NotOpened 0 0 0)

-- the store's worker w decided its events so far with these verdicts
pub record IsAtWork (store : Store) (w : ℕ) (verdicts : List Verdict) (r : RecorderKnown) : Type 0 where
  pub worker : IsWorkerOf store w r
  pub followed : HasFollowedAll r
  pub decided : verdicts_in r.work ≡ verdicts
  pub given : r.given ≡ length verdicts

-- The store's worker w read its file and decided its events, each with one of the verdicts, in order. It has ended
-- behind them.
pub record IsWorked {S : Type 0} (state : S → SourceState) (store : Store) (w : ℕ) (given : Given S) (worked : Worked)
    : Type 0 where
  pub events : List Event
  pub read : IsFileRead state given events worked.end
  pub applied : events_in worked.ended.work.items ≡ events
  pub decided : verdicts_in worked.ended.work.items ≡ worked.verdicts.items
  pub ended : HasEnded store w worked.ended
  pub followed : HasFollowedToEnd worked.ended
