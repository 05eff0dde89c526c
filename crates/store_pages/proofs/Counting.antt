-- The totals of a page are what was counted.
use Rattle.std.proofs.Common.{◌≡◌, ℕ, [], ◌∷◌, map, ap, sym, ◌∙◌}
use Rattle.stat_defs.specs.Books.{BookHistory}
use Rattle.stat_defs.specs.declared.configs.Config.{Config}
use Rattle.stat_defs.specs.declared.ids.Kind.TheVariants.{Counter}
use Rattle.stat_defs.specs.declared.reports.FlushRecord.{FlushRecord}
use Rattle.stat_defs.specs.declared.views.FlushView.{FlushView}
use Rattle.ledger.specs.Flushes.{flushed, flushed_in}
use Rattle.ledger.specs.Work.{Work, units_of}
use Rattle.flush_view.specs.Views.{NumberedMetric, view_rules, metrics_shown, has_counter_row}
use Rattle.live_view.specs.Live.{view_so_far}
use Rattle.plain_store.specs.Store.{StoreHistory}
use Rattle.store_pages.specs.Pages.{PagesHistory, GivesPage}
use Rattle.store_pages.specs.Totals.{PagesCount, counted_row, book_before, book_now}

module _ (old : PagesHistory) (shown : FlushView) (new : PagesHistory) (gives : GivesPage old shown new) where
  abbrev flush : FlushRecord
  flush = gives.flush

  same_work : old.store.counted ≡ new.store.counted
  same_work = sym (ap (λ (s : StoreHistory). s.counted) gives.flushed.rest)

  same_config : old.store.worker.book.config ≡ new.store.worker.book.config
  same_config = sym (ap (λ (b : BookHistory). b.config) gives.flushed.swept.1.logged)

  all_units : (id : ℕ) → flushed id new.store.flushes ≡ units_of id (new.store.counted ∷ [])
  all_units id =
      ap (λ (s : StoreHistory). flushed id s.flushes) gives.flushed.rest
      ∙ gives.accounts.units id
      ∙ ap (λ (w : Work). units_of id (w ∷ [])) same_work

  page_counts : shown.counters ≡ map (counted_row flush new.store.counted)
      (metrics_shown Counter (has_counter_row (book_before new flush) flush) (book_now new))
  page_counts =
      ap (λ (v : FlushView). v.counters) gives.view
      ∙ ap (λ (c : Config). (view_so_far (view_rules c) 1 new.store.worker.book.log flush new.store.flushes).counters)
      same_config
      ∙ (λ i. map (λ (numbered : NumberedMetric). record {
        name = numbered.1.name;
        tagged = numbered.1.tagged;
        delta = flushed_in numbered.0 flush;
        total = all_units numbered.0 i;
      }) (metrics_shown Counter (has_counter_row (book_before new flush) flush) (book_now new)))

pub pages_count : PagesCount
pages_count old shown new gives = page_counts old shown new gives
