-- What callers see of a store with its pages. This project's own.
use Rattle.std.specs.Prelude.{◌≡◌, ◌⊎◌, ◌<◌, Bool, true, false, length}
use Rattle.stat_defs.specs.declared.configs.Config.{Config}
use Rattle.stat_defs.specs.declared.events.Event.{Event}
use Rattle.stat_defs.specs.declared.history.Verdict.{Verdict}
use Rattle.stat_defs.specs.declared.reports.FlushRecord.{FlushRecord}
use Rattle.stat_defs.specs.declared.views.FlushView.{FlushView}
use Rattle.plain_store.specs.declared.worker.TheConstants.{MAX_EVENTS}
use Rattle.flush_view.specs.Views.{view_rules}
use Rattle.live_view.specs.Live.{view_so_far}
use Rattle.plain_store.specs.Store.{StoreHistory, new_store, Applied, IsCutShort, Accounts, Flushes, FlushIsCutShort}
use Rattle.store_pages.specs.declared.fault.ApplyFault.{ApplyFault}
use Rattle.store_pages.specs.declared.fault.ApplyFault.TheVariants as apply
use Rattle.store_pages.specs.declared.fault.PageFault.{PageFault}
use Rattle.store_pages.specs.declared.fault.PageFault.TheVariants as page

-- the store, and whether no page was cut short by want of memory
pub record PagesHistory : Type 0 where
  pub store : StoreHistory
  pub whole : Bool

abbrev pub new_pages : Config → PagesHistory
new_pages config = record { store = new_store config; whole = true }

-- one event more was decided and counted, and no page was given
pub record IsApplied (old : PagesHistory) (e : Event) (v : Verdict) (new : PagesHistory) : Type 0 where
  pub applied : Applied old.store e v new.store
  pub rest : new ≡ record old { store = new.store }

-- A full store is as it was. After want of memory the pages to come owe what they owed.
abbrev pub ApplyFails : PagesHistory → Event → ApplyFault → PagesHistory → Type 0
ApplyFails old e apply.Full new = (length old.store.worker.events ≡ MAX_EVENTS) × (new ≡ old)
ApplyFails old e apply.NoMemory new = (length old.store.worker.events < MAX_EVENTS)
    × IsCutShort old.store e new.store
    × (new ≡ record old { store = new.store })

-- The store was flushed, and the page shows that flush: what it shows of the events that were counted, by the names of
-- the log so far, with the totals of all flushes so far.
pub record GivesPage (old : PagesHistory) (shown : FlushView) (new : PagesHistory) : Type 0 where
  pub whole : old.whole ≡ true
  pub flush : FlushRecord
  pub flushed : Flushes old.store flush new.store
  pub accounts : Accounts old.store new.store.worker.book.log false flush
  pub view : shown ≡ view_so_far (view_rules old.store.worker.book.config) 1 new.store.worker.book.log flush
      new.store.flushes
  pub rest : new ≡ record old { store = new.store }

-- A flush that is not shown was made, or none was, and no page comes behind it.
abbrev pub PageFails : PagesHistory → PageFault → PagesHistory → Type 0
PageFails old page.CutShort new = (old.whole ≡ false) × (new ≡ old)
PageFails old page.NoMemory new = (old.whole ≡ true)
    × (FlushIsCutShort old.store new.store ⊎ ((flush : FlushRecord) × Flushes old.store flush new.store))
    × (new ≡ record old { store = new.store; whole = false })
