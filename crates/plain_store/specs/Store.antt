-- What callers see of a store on one thread. This project's own.
use Rattle.std.specs.Prelude.{◌≡◌, ◌⊎◌, ◌≤◌, ◌+◌, ℕ, Bool, true, false, List, [], ◌∷◌, ◌++◌, length, All}
use Rattle.stat_defs.specs.declared.configs.Config.{Config}
use Rattle.stat_defs.specs.declared.events.Event.{Event}
use Rattle.stat_defs.specs.declared.history.Call.TheVariants as call
use Rattle.stat_defs.specs.declared.history.Reply.TheVariants as reply
use Rattle.stat_defs.specs.declared.history.Entry.{Entry}
use Rattle.stat_defs.specs.declared.history.Verdict.{Verdict}
use Rattle.stat_defs.specs.declared.reports.FlushRecord.{FlushRecord}
use Rattle.stat_defs.specs.declared.reports.LastFlush.{LastFlush}
use Rattle.stat_defs.specs.declared.reports.Report.{Report}
use Rattle.book_state.specs.Follows.{Follows}
use Rattle.stat_book.specs.Calls.{rules_of, IsLegal, Logged}
use Rattle.stat_book.specs.NameChanges.{names_of}
use Rattle.plain_store.specs.Worker.{WorkerHistory, new_worker, Decides, IsCutShort as IsWorkerCutShort}
use Rattle.ledger.specs.Work.{Work, units_of}
use Rattle.ledger.specs.Gauges.{gauge_word}
use Rattle.ledger.specs.Segments.{left_over, TakesLess}
use Rattle.ledger.specs.Flushes.{Fits, FitSoFar, FitAll, flushed}

-- its worker; the events that were counted, each with its verdict: those that its caller was told a verdict of; the
-- records of its flushes so far; and whether no flush was cut short by want of memory
pub record StoreHistory : Type 0 where
  pub worker : WorkerHistory
  pub counted : Work
  pub flushes : List FlushRecord
  pub whole : Bool

abbrev pub new_store : Config → StoreHistory
new_store config = record { worker = new_worker config; counted = []; flushes = []; whole = true }

-- one event more was decided and counted, and nothing was flushed
pub record Applied (old : StoreHistory) (e : Event) (v : Verdict) (new : StoreHistory) : Type 0 where
  pub worker : Decides old.worker e v new.worker
  pub rest : new ≡ record old { worker = new.worker; counted = old.counted ++ (e, v) ∷ [] }

-- The flushes to come owe what they owed: the same events are counted, the same flushes have been, and none was cut
-- short. So the units and values that wait for a flush are those that did, and the gauges have their words.
abbrev pub OwesAsBefore : StoreHistory → StoreHistory → Type 0
OwesAsBefore old new = new ≡ record old { worker = new.worker }

-- an event was cut short by want of memory: before it was decided, or behind that; either way it is not counted
pub record IsCutShort (old : StoreHistory) (e : Event) (new : StoreHistory) : Type 0 where
  pub worker : IsWorkerCutShort old.worker e new.worker ⊎ ((v : Verdict) × Decides old.worker e v new.worker)
  pub owes : OwesAsBefore old new

-- a flush was cut short by want of memory: its sweep may stand behind the log as it was
pub record FlushIsCutShort (old new : StoreHistory) : Type 0 where
  pub sweep : (new.worker.book ≡ old.worker.book)
      ⊎ ((n : ℕ) × Logged old.worker.book 0 call.Sweep (reply.Swept n) new.worker.book)
  pub rest : new ≡ record old { worker = record old.worker { book = new.worker.book }; whole = false }

-- What a record shows of the events that were counted: each unit that no flush before it has, the words of the gauges,
-- and the values that no flush before it has. `last` tells whether it is the last.
pub record Accounts (old : StoreHistory) (log : List Entry) (last : Bool) (flush : FlushRecord) : Type 0 where
  pub fits : Fits (rules_of old.worker.book) log last (left_over 1 old.counted old.flushes ∷ []) flush
  pub units : (id : ℕ) → flushed id (old.flushes ++ flush ∷ []) ≡ units_of id (old.counted ∷ [])
  pub words : All (λ reading. reading.word ≡ gauge_word reading.id.0 old.counted) flush.gauges

-- What the flushes so far show of the events that were counted: each of them fits the log, and no unit and no value is
-- in two of them. What they do not have waits for a flush.
pub record AccountsSoFar (store : StoreHistory) : Type 0 where
  pub fit : FitSoFar (rules_of store.worker.book) store.worker.book.log (store.counted ∷ []) store.flushes
  pub units : (id : ℕ) → flushed id store.flushes ≤ units_of id (store.counted ∷ [])
  pub values : TakesLess 1 store.counted store.flushes

-- a flush during the run
pub record Flushes (old : StoreHistory) (flush : FlushRecord) (new : StoreHistory) : Type 0 where
  pub at : flush.at ≡ length old.worker.book.log
  pub swept : (n : ℕ) × Logged old.worker.book 0 call.Sweep (reply.Swept n) new.worker.book
  pub rest : new ≡ record old {
    worker = record old.worker { book = new.worker.book };
    flushes = old.flushes ++ flush
        ∷ [];
  }
  -- said of a store none of whose flushes was cut short
  pub accounts : old.whole ≡ true → Accounts old new.worker.book.log false flush

-- the end of the seat, and the last flush
pub record Finishes (old : StoreHistory) (given : LastFlush) : Type 0 where
  pub at : given.last.at ≡ length old.worker.book.log + 1
  pub swept : (n : ℕ) × (given.log
      ≡ (old.worker.book.log ++ record { seat = 1; call = call.End; reply = reply.Ended } ∷ [])
      ++ record { seat = 0; call = call.Sweep; reply = reply.Swept n } ∷ [])
  pub legal : IsLegal (record old.worker.book { log = given.log })
  pub names : given.names ≡ names_of (record old.worker.book { log = given.log })
  -- said of a worker none of whose events was cut short
  pub follows : old.worker.whole ≡ true
      → Follows (rules_of old.worker.book) 1 1 old.worker.events old.worker.verdicts given.log
  -- said of a store none of whose flushes was cut short
  pub accounts : old.whole ≡ true → Accounts old given.log true given.last
  pub all_fit : old.whole ≡ true
      → FitAll (rules_of old.worker.book) given.log (old.counted ∷ []) (old.flushes ++ given.last ∷ [])

-- the store was finished: the report has its flushes, the last one behind them, and the log, and nothing else
pub record IsReportOfStore (store : StoreHistory) (report : Report) : Type 0 where
  pub given : LastFlush
  pub finished : Finishes store given
  pub flushes : report.flushes ≡ store.flushes ++ given.last ∷ []
  pub log : report.log ≡ given.log
  pub no_verdicts : report.verdicts ≡ []
  pub no_reads : report.reads ≡ []
  pub no_ends : report.ends ≡ []
