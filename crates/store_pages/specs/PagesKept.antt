-- What a store with its pages keeps. This project's own.
use Rattle.std.specs.Prelude.{◌≡◌, ◌≤◌, ◌<◌, ◌++◌, Bool, true, List, length, map, All}
use Rattle.std.specs.List.Sorted.{IsNonDecreasing}
use Rattle.stat_defs.specs.Events.{IsLawfulEvent}
use Rattle.stat_defs.specs.declared.history.Entry.{Entry}
use Rattle.plain_store.specs.declared.worker.TheConstants.{MAX_EVENTS}
use Rattle.live_view.specs.Live.{LiveHistory}
use Rattle.plain_store.specs.Store.{StoreHistory}
use Rattle.store_pages.specs.declared.pages.StorePages.TheInside.{Inside}
use Rattle.store_pages.specs.Pages.{PagesHistory}

abbrev pub shown : Inside → PagesHistory
shown p = record { store = p.store; whole = p.whole }

-- the views are those of the store's flushes, and their log is a front of its log, in which all sweeps stand in order
pub record AreInStep (store : StoreHistory) (views : LiveHistory) : Type 0 where
  pub store_whole : store.whole ≡ true
  pub views_whole : views.whole ≡ true
  pub flushes : views.flushes ≡ store.flushes
  pub more : List Entry
  pub log : store.worker.book.log ≡ views.log ++ more
  pub rising : IsNonDecreasing (map (λ flush. flush.at) store.flushes)
  pub logged : All (λ flush. flush.at < length store.worker.book.log) store.flushes

-- a store of one worker, whose counted events are lawful; where no page was cut short, views and store are in step
pub record AreKept (store : StoreHistory) (views : LiveHistory) (whole : Bool) : Type 0 where
  pub config : views.config ≡ store.worker.book.config
  pub workers : views.workers ≡ 1
  pub lawful : All (λ told. IsLawfulEvent told.0) store.counted
  pub counted : length store.counted ≤ length store.worker.events
  pub few : length store.worker.events ≤ MAX_EVENTS
  pub in_step : whole ≡ true → AreInStep store views

abbrev pub IsKept : Inside → Type 0
IsKept p = AreKept p.store p.views p.whole
