-- What a store on one thread tells of itself between two calls, and that it can be shown. This project's own.
use Rattle.std.specs.Prelude.{◌≡◌, ◌≤◌, length, map, All}
use Rattle.std.specs.List.Sorted.{IsNonDecreasing}
use Rattle.stat_defs.specs.Events.{IsLawfulEvent}
use Rattle.book_state.specs.Stored.{IsLawfulCall}
use Rattle.stat_book.specs.Calls.{IsLegal}
use Rattle.plain_store.specs.declared.worker.TheConstants.{MAX_EVENTS}
use Rattle.live_view.specs.Live.{CanBeShown}
use Rattle.plain_store.specs.Store.{StoreHistory, AccountsSoFar}

-- The store's log is legal, with one worker, and the texts of its calls are lawful. Lawful events were counted, no more
-- than a store takes, and the flushes so far account for them, in the order of their sweeps.
pub record TellsItself (store : StoreHistory) : Type 0 where
  pub legal : IsLegal store.worker.book
  pub one_worker : store.worker.book.workers ≡ 1
  pub calls : All (λ entry. IsLawfulCall entry.call) store.worker.book.log
  pub lawful : All (λ told. IsLawfulEvent told.0) store.counted
  pub few : length store.counted ≤ MAX_EVENTS
  pub accounts : AccountsSoFar store
  pub rising : IsNonDecreasing (map (λ flush. flush.at) store.flushes)

-- such a store's log and flushes can be shown
abbrev pub StoresCanBeShown : Type 0
StoresCanBeShown = (store : StoreHistory) → TellsItself store
    → CanBeShown store.worker.book.config 1 store.worker.book.log store.flushes
