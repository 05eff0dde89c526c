-- A store to which events are applied one after another. This project's own.
use Rattle.std.specs.Prelude.{◌≡◌, ◌==◌, true, List, [], ◌∷◌, ◌++◌, length}
use Rattle.std.specs.List.{list_all, zip}
use Rattle.stat_defs.specs.declared.events.Event.{Event}
use Rattle.stat_defs.specs.declared.history.Entry.{Entry}
use Rattle.stat_defs.specs.declared.history.Verdict.{Verdict}
use Rattle.plain_store.specs.Worker.{WorkerHistory}
use Rattle.plain_store.specs.Store.{StoreHistory, Applied}

-- a worker that decided these events besides, with these verdicts, which made these entries
abbrev pub with_decided : WorkerHistory → List Event → List Verdict → List Entry → WorkerHistory
with_decided worker events verdicts entries = record worker {
  book = record worker.book { log = worker.book.log ++ entries };
  events = worker.events ++ events;
  verdicts = worker.verdicts ++ verdicts;
}

-- a store with such a worker, in which each of these events was counted
abbrev pub with_applied : StoreHistory → List Event → List Verdict → List Entry → StoreHistory
with_applied store events verdicts entries =
    record store {
      worker = with_decided store.worker events verdicts entries;
      counted = store.counted ++ zip events verdicts;
    }

-- these events were applied with these verdicts; they made entries of the worker alone, and no flush
pub record AreApplied (old : StoreHistory) (events : List Event) (verdicts : List Verdict) (new : StoreHistory)
    : Type 0 where
  pub entries : List Entry
  pub mine : list_all (λ entry. entry.seat == 1) entries ≡ true
  pub a_verdict_each : length verdicts ≡ length events
  pub applied : new ≡ with_applied old events verdicts entries

-- one event was applied, and its verdict told behind the earlier ones
pub record IsToldBehind (old : StoreHistory) (e : Event) (earlier : List Verdict) (new : StoreHistory)
    (verdicts : List Verdict) : Type 0 where
  pub verdict : Verdict
  pub applied : Applied old e verdict new
  pub told : verdicts ≡ earlier ++ verdict ∷ []
