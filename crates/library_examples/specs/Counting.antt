-- What the examples count. This project's own.
use Rattle.std.specs.Prelude.{◌≡◌, ◌≤◌, ℕ, zero, suc, List, [], ◌∷◌, length, All}
use Rattle.stat_defs.specs.declared.configs.Config.{Config}
use Rattle.stat_defs.specs.declared.events.Event.{Event}
use Rattle.stat_defs.specs.declared.history.Verdict.{Verdict}
use Rattle.stat_defs.specs.declared.reports.FileEnd.{FileEnd}
use Rattle.stat_defs.specs.declared.reports.FlushRecord.{FlushRecord}
use Rattle.stat_defs.specs.declared.reports.Report.{Report}
use Rattle.stats_io.specs.States.{SourceState}
use Rattle.event_script.specs.Answer.{Explains}
use Rattle.event_script.specs.Grammar.{IsLawful}
use Rattle.event_script.specs.FileEvents.{AreEventsOf}
use Rattle.event_script.specs.declared.limits.TheConstants as file
use Rattle.plain_store.specs.Store.{StoreHistory, new_store, Applied, Flushes, IsReportOfStore}
use Rattle.replay_files.specs.Applying.{AreApplied}
use Rattle.library_examples.specs.StoreOf.{IsStoreOf}

-- an event was applied twice, and then came a flush, whose record this is
pub record CountsTwice (old : StoreHistory) (e : Event) (flush : FlushRecord) : Type 0 where
  pub first : Verdict
  pub second : Verdict
  pub once : StoreHistory
  pub twice : StoreHistory
  pub last : StoreHistory
  pub applied : Applied old e first once
  pub again : Applied once e second twice
  pub flushed : Flushes twice flush last

-- a source was read to its end, for a cause that a later state of it shows, and its events were applied with these
-- verdicts
pub record AreLinesApplied {S : Type 0} (state : S → SourceState) (source : S) (old new : StoreHistory)
    (verdicts : List Verdict) (end : FileEnd) : Type 0 where
  pub events : List Event
  pub taken : ℕ
  pub is_run : AreEventsOf (state source).left end taken events
  pub applied : AreApplied old events verdicts new
  pub lawful : All IsLawful events
  pub few : length events ≤ file.MAX_EVENTS
  pub last : S
  pub origin : (state last).origin ≡ (state source).origin
  pub explained : Explains (state last) (state source).faults end

-- so it was, and then a flush came
pub record AreLinesFlushed {S : Type 0} (state : S → SourceState) (source : S) (old new : StoreHistory)
    (verdicts : List Verdict) (end : FileEnd) : Type 0 where
  pub flush : FlushRecord
  pub between : StoreHistory
  pub lines : AreLinesApplied state source old between verdicts end
  pub flushed : Flushes between flush new

-- a store of a configuration stays one
abbrev pub Stays : StoreHistory → StoreHistory → Type 0
Stays old new = (config : Config) → IsStoreOf config old → IsStoreOf config new

-- so many flushes came, with nothing new in between
abbrev pub AreFlushes : ℕ → StoreHistory → StoreHistory → Type 0
AreFlushes zero old new = new ≡ old
AreFlushes (suc n) old new =
    (between : StoreHistory) × (flush : FlushRecord) × (AreFlushes n old between × Flushes between flush new)

-- the lines of a source were applied, and then so many flushes came
pub record AreFlushedOften {S : Type 0} (state : S → SourceState) (source : S) (flushes : ℕ) (old new : StoreHistory)
    : Type 0 where
  pub verdicts : List Verdict
  pub end : FileEnd
  pub between : StoreHistory
  pub lines : AreLinesApplied state source old between verdicts end
  pub flushed : AreFlushes flushes between new

-- the lines of each of these sources were applied in turn, and behind each came a flush
abbrev pub AreFlushedInTurn : {S : Type 0} → (S → SourceState) → List S → StoreHistory → StoreHistory → Type 0
AreFlushedInTurn state [] old new = new ≡ old
AreFlushedInTurn state (source ∷ sources) old new =
    (between : StoreHistory) × (verdicts : List Verdict) × (end : FileEnd)
    × (AreLinesFlushed state source old between verdicts end × AreFlushedInTurn state sources between new)

-- the report of a new store to which the lines of a source were applied
pub record CountsLines {S : Type 0} (state : S → SourceState) (source : S) (config : Config) (report : Report)
    : Type 0 where
  pub store : StoreHistory
  pub verdicts : List Verdict
  pub end : FileEnd
  pub read : AreLinesApplied state source (new_store config) store verdicts end
  pub reported : IsReportOfStore store report

-- the report of a new store that was flushed behind the lines of each of these sources
pub record CountsInTurn {S : Type 0} (state : S → SourceState) (sources : List S) (config : Config) (report : Report)
    : Type 0 where
  pub store : StoreHistory
  pub in_turn : AreFlushedInTurn state sources (new_store config) store
  pub reported : IsReportOfStore store report

-- the report of a new store to which the lines of a source were applied, and which was then flushed so many times
pub record CountsOften {S : Type 0} (state : S → SourceState) (source : S) (flushes : ℕ) (config : Config)
    (report : Report) : Type 0 where
  pub store : StoreHistory
  pub often : AreFlushedOften state source flushes (new_store config) store
  pub reported : IsReportOfStore store report
