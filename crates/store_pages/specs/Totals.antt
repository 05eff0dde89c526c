-- What the totals of a page come to (Envoy's statistics overview: a counter only rises; this statement is this project's
-- own).
use Rattle.std.specs.Prelude.{◌≡◌, [], ◌∷◌, map, take}
use Rattle.stat_defs.specs.declared.ids.Kind.TheVariants.{Counter}
use Rattle.stat_defs.specs.declared.reports.FlushRecord.{FlushRecord}
use Rattle.stat_defs.specs.declared.views.CounterRow.{CounterRow}
use Rattle.stat_defs.specs.declared.views.FlushView.{FlushView}
use Rattle.book_state.specs.Log.{replay}
use Rattle.book_state.specs.State.{State}
use Rattle.ledger.specs.Flushes.{flushed_in}
use Rattle.ledger.specs.Work.{Work, units_of}
use Rattle.flush_view.specs.Views.{NumberedMetric, view_rules, metrics_shown, has_counter_row}
use Rattle.store_pages.specs.Pages.{PagesHistory, GivesPage}

-- a counter's units in this flush, and all that were counted for it
abbrev pub counted_row : FlushRecord → Work → NumberedMetric → CounterRow
counted_row flush counted numbered = record {
  name = numbered.1.name;
  tagged = numbered.1.tagged;
  delta = flushed_in numbered.0 flush;
  total = units_of numbered.0 (counted ∷ []);
}

-- the book of a page's store before the sweep of its flush, and now
abbrev pub book_before : PagesHistory → FlushRecord → State
book_before pages flush =
    let book = pages.store.worker.book in
    replay (view_rules book.config).names 1 (take flush.at book.log)

abbrev pub book_now : PagesHistory → State
book_now pages = let book = pages.store.worker.book in replay (view_rules book.config).names 1 book.log

-- A page has a row for each counter that was not gone or has units in its flush, with all the units that were counted for
-- it since the store was opened.
abbrev pub PagesCount : Type 0
PagesCount = (old : PagesHistory) (shown : FlushView) (new : PagesHistory) (gives : GivesPage old shown new)
    → shown.counters ≡ map (counted_row gives.flush new.store.counted)
    (metrics_shown Counter (has_counter_row (book_before new gives.flush) gives.flush) (book_now new))
