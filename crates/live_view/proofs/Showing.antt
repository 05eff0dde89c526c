-- What holds in a call of `show`.
use Rattle.std.proofs.Common.{◌≡◌, ℕ, ◌-◌, ◌++◌, true, None, List, [], ◌∷◌, All, fold, take, drop, length, replicate, ap, sym, ◌∙◌, subst, IsUtf8}
use Rattle.std.specs.List.{enumerate_from}
use Rattle.stat_defs.specs.declared.configs.BucketSpec.{BucketSpec}
use Rattle.stat_defs.specs.declared.history.Entry.{Entry}
use Rattle.stat_defs.specs.declared.metrics.Metric.{Metric}
use Rattle.stat_defs.specs.declared.reports.FlushRecord.{FlushRecord}
use Rattle.stat_defs.specs.declared.views.FlushView.{FlushView}
use Rattle.tag_rules.specs.Bounds.{bounds_for}
use Rattle.book_state.specs.declared.limits.TheConstants.{MAX_METRICS}
use Rattle.book_state.specs.State.{metrics_of}
use Rattle.book_state.specs.Stored.{StateView, after_entry}
use Rattle.flush_view.specs.declared.progress.Progress.{Progress}
use Rattle.flush_view.specs.Before.{Before, before_of}
use Rattle.flush_view.specs.ByName.{by_name}
use Rattle.flush_view.specs.Kept.{Follows, HasSums, kept_of}
use Rattle.flush_view.specs.Replaying.{AreNext, first_state, state_after}
use Rattle.flush_view.specs.Rows.{view_kept}
use Rattle.flush_view.specs.Showing.{HasBinsShown}
use Rattle.flush_view.specs.Sums.{HasRoomForAll}
use Rattle.flush_view.specs.Views.{NumberedMetric, row_name, numbered_metrics, view_rules}
use Rattle.live_view.specs.declared.live_views.LiveViews.TheInside.{Inside}
use Rattle.live_view.specs.Live.{LiveHistory, CanBeShown, GoesOn, view_so_far}
use Rattle.live_view.specs.LiveKept.{shown, IsReady, Kept}
use Rattle.live_view.proofs.Shown.{steps, to_sweep, to_end, log_next, texts, alone, beside, sums, is_view, bins}

module _ (v : Inside) (kept : Kept v) (now : LiveHistory) (is : shown v ≡ now) (whole : now.whole ≡ true)
    (log : List Entry) (flush : FlushRecord) (follows : GoesOn now.log log flush)
    (showable : CanBeShown now.config now.workers log (now.flushes ++ flush ∷ [])) where
  ready : IsReady v
  ready = kept.ready (ap (λ (h : LiveHistory). h.whole) is ∙ whole)

  on : GoesOn (shown v).log log flush
  on = subst (λ (h : LiveHistory). GoesOn h.log log flush) (sym is) follows

  can : CanBeShown v.config.now v.workers log (v.flushes.items ++ flush ∷ [])
  can = subst (λ (h : LiveHistory). CanBeShown h.config h.workers log (h.flushes ++ flush ∷ [])) (sym is) showable

  abbrev first : StateView
  first = first_state v.config.now.tags v.workers

  abbrev entries : List Entry
  entries = take (length log - v.followed) (drop v.followed log)

  pub next : AreNext v.book entries
  next = steps (shown v).log log flush on first v.book ready.book v.followed ready.followed
      (log_next v.config.now v.workers log v.flushes.items flush can)

  pub room : HasRoomForAll v.progress.cumulative.items flush.parts
  room = beside v.config.now v.workers log v.flushes.items flush can v.progress ready.sums

  pub room_for : (count : ℕ) → HasRoomForAll (replicate count None) flush.parts
  room_for count = alone v.config.now v.workers log v.flushes.items flush can count

  pub sums_now : (new : Progress) → Follows flush v.progress new
      → HasSums MAX_METRICS (v.flushes.items ++ flush ∷ []) new
  sums_now new adds = sums v.config.now v.workers log v.flushes.items flush can v.progress ready.sums new adds

  module _ (book : StateView) (carried : book ≡ fold after_entry v.book entries) where
    pub book_now : book ≡ state_after v.config.now.tags v.workers log
    book_now = carried ∙ to_end (shown v).log log flush on first v.book ready.book v.followed ready.followed

    module _ (copies : List Metric) (metrics : List NumberedMetric) (copied : copies ≡ metrics_of book.state)
        (ordered : metrics ≡ by_name row_name (enumerate_from 0 copies)) where
      metrics_now : metrics ≡ by_name row_name (numbered_metrics (state_after v.config.now.tags v.workers log).state)
      metrics_now =
          ordered ∙ ap (λ (l : List Metric). by_name row_name (enumerate_from 0 l)) copied
          ∙ ap (λ (s : StateView). by_name row_name (numbered_metrics s.state)) book_now

      pub texts_now : All (λ (numbered : NumberedMetric). IsUtf8 numbered.1.name) metrics
      texts_now = texts v.config.now v.workers log v.flushes.items flush can metrics metrics_now

      module _ (new : Progress) (adds : Follows flush v.progress new) (before : Before)
          (known : before ≡ before_of (fold after_entry v.book (take (flush.at - v.followed) entries)).state)
          (page : FlushView)
          (made : page ≡ view_kept (bounds_for v.buckets.now) before
          (kept_of (length metrics) flush new.totals.items new.cumulative.items) metrics) where
        page_is : page ≡ view_so_far (view_rules v.config.now) v.workers log flush (v.flushes.items ++ flush ∷ [])
        page_is =
            made
            ∙ ap (λ (settings : List BucketSpec). view_kept (bounds_for settings) before
            (kept_of (length metrics) flush new.totals.items new.cumulative.items) metrics) kept.buckets
            ∙ is_view v.config.now v.workers log v.flushes.items flush can v.progress ready.sums new adds before metrics
            (known ∙ ap (λ (s : StateView). before_of s.state)
            (to_sweep (shown v).log log flush on first v.book ready.book v.followed ready.followed))
            metrics_now

        pub page_shown : page ≡ view_so_far (view_rules now.config) now.workers log flush (now.flushes ++ flush ∷ [])
        page_shown =
            page_is
            ∙ ap (λ (h : LiveHistory). view_so_far (view_rules h.config) h.workers log flush (h.flushes ++ flush ∷ [])) is

        pub page_bins : All HasBinsShown page.histograms
        page_bins = bins v.config.now v.workers log v.flushes.items flush can page page_is
