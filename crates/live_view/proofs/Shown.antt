-- What is shown of a store that goes on.
use Rattle.std.proofs.Common.{◌≡◌, ℕ, suc, ◌≤◌, ◌-◌, Some, None, List, [], ◌∷◌, ◌++◌, All, fold, take, drop, length, slice_get, get_or, Option, replicate, length-append, refl, ap, sym, ◌∙◌, subst, arith, IsUtf8}
use Rattle.std.proofs.lemmas.List.{length-replicate, take_all, take_rest}
use Rattle.std.proofs.lemmas.List.Elements.{All-from_recursion, All-map}
use Rattle.std.proofs.Math.Seq.{take-append_seam}
use Rattle.stat_defs.specs.declared.bins.BinCount.{BinCount}
use Rattle.stat_defs.specs.declared.configs.Config.{Config}
use Rattle.stat_defs.specs.declared.history.Entry.{Entry}
use Rattle.stat_defs.specs.declared.ids.Kind.TheVariants.{Histogram}
use Rattle.stat_defs.specs.declared.reports.FlushRecord.{FlushRecord}
use Rattle.stat_defs.specs.declared.views.FlushView.{FlushView}
use Rattle.merge_round.specs.Slots.{Slots, held, bins_at}
use Rattle.book_state.specs.declared.limits.TheConstants.{MAX_METRICS}
use Rattle.book_state.specs.Log.{empty, replay}
use Rattle.book_state.specs.State.{State, metrics_of}
use Rattle.book_state.specs.Stored.{StateView, after_entry}
use Rattle.book_state.proofs.Safety.{run_kept_all, empty_run}
use Rattle.flush_view.specs.declared.progress.Progress.{Progress}
use Rattle.flush_view.specs.Before.{Before, before_of}
use Rattle.flush_view.specs.ByName.{by_name}
use Rattle.flush_view.specs.Kept.{IsAtStart, Follows, HasSums, kept_of}
use Rattle.flush_view.specs.Replaying.{AreNext, first_state, state_after}
use Rattle.flush_view.specs.Rows.{view_kept}
use Rattle.flush_view.specs.Showing.{HasBinsShown}
use Rattle.flush_view.specs.Sums.{HasRoomForAll}
use Rattle.flush_view.specs.Views.{NumberedMetric, row_name, numbered_metrics, view_rules, metrics_shown, has_histogram_row, histogram_row}
use Rattle.flush_view.proofs.Befores.{next_to, applied_to, applied_all}
use Rattle.flush_view.proofs.Following.{AreCountable, no_bins_at, no_sum_at, room_alone, room_beside}
use Rattle.flush_view.proofs.FullNames.{names_are_texts}
use Rattle.flush_view.proofs.Picked.{all_in_order, names_within}
use Rattle.flush_view.proofs.Replayed.{tags_drawn, all_next, state_replayed}
use Rattle.flush_view.proofs.RowsBins.{row_bins}
use Rattle.flush_view.proofs.Viewing.{followed_on, view_in}
use Rattle.live_view.specs.Live.{CanBeShown, GoesOn, ReportShows, view_so_far}

last_of : (flushes : List FlushRecord) (flush : FlushRecord)
    → slice_get (flushes ++ flush ∷ []) (length flushes) ≡ Some flush
last_of [] flush = refl
last_of (first ∷ flushes) flush = last_of flushes flush

whole_of : (flushes : List FlushRecord) (flush : FlushRecord)
    → take (suc (length flushes)) (flushes ++ flush ∷ []) ≡ flushes ++ flush ∷ []
whole_of flushes flush =
    let long = length-append flushes (flush ∷ []) in
    take_all (suc (length flushes)) (flushes ++ flush ∷ []) (omega (arith, long))

-- no flush is shown yet
pub started : (progress : Progress) → IsAtStart MAX_METRICS progress → HasSums MAX_METRICS [] progress
started progress start = from MAX_METRICS start where
  from : (count : ℕ) → IsAtStart count progress → HasSums count [] progress
  from count start = record {
    sums = ap length start.totals ∙ length-replicate {A = ℕ} count 0;
    slots = ap length start.cumulative ∙ length-replicate {A = Option (List BinCount)} count None;
    totals = λ id below. ap (λ (l : List ℕ). get_or l id 0) start.totals ∙ no_sum_at count id;
    bins = λ id below. ap (λ (l : Slots). bins_at l id) start.cumulative ∙ ap held (no_bins_at count id);
  }

module _ (earlier log : List Entry) (flush : FlushRecord) (on : GoesOn earlier log flush) where
  -- the entries that were followed are the first ones
  pub followed_front : (first : StateView) → fold after_entry first (take (length earlier) log) ≡ fold after_entry first earlier
  followed_front first =
      ap (λ (l : List Entry). fold after_entry first l)
      (ap (λ (l : List Entry). take (length earlier) l) on.longer ∙ take-append_seam earlier on.more)

  module _ (first book : StateView) (is : book ≡ fold after_entry first earlier) (from : ℕ) (so : from ≡ length earlier)
    where
      front : book ≡ fold after_entry first (take from log)
      front = is ∙ sym (followed_front first) ∙ ap (λ (n : ℕ). fold after_entry first (take n log)) (sym so)

      pub behind : from ≤ flush.at
      behind = let low = on.behind in omega (arith, low, so)

      -- the entries that are new are the next ones
      pub steps : AreNext first log → AreNext book (take (length log - from) (drop from log))
      steps next = next_to first log book from front (length log) next

      -- up to the sweep, and to the end
      pub to_sweep : fold after_entry book (take (flush.at - from) (take (length log - from) (drop from log)))
          ≡ fold after_entry first (take flush.at log)
      to_sweep =
          ap (λ (l : List Entry). fold after_entry book (take (flush.at - from) l)) (take_rest log from)
          ∙ applied_to first log book from front flush.at behind

      pub to_end : fold after_entry book (take (length log - from) (drop from log)) ≡ fold after_entry first log
      to_end = let inside = on.within in let low = behind in
          applied_all first log book from front (omega (arith, inside, low))

module _ (config : Config) (workers : ℕ) (log : List Entry) (flushes : List FlushRecord) (flush : FlushRecord)
    (can : CanBeShown config workers log (flushes ++ flush ∷ [])) where
  abbrev all : List FlushRecord
  all = flushes ++ flush ∷ []

  abbrev first : StateView
  first = first_state config.tags workers

  -- the entries of the log are steps
  pub log_next : AreNext first log
  log_next =
      all_next (view_rules config).names config.tags workers
      (tags_drawn config.matcher config.tags) log can.legal.steps can.calls

  -- the stored state is that of the replay
  pub stored_is : (front : List Entry)
      → (state_after config.tags workers front).state ≡ replay (view_rules config).names workers front
  stored_is front = state_replayed (view_rules config).names config.tags workers
      (tags_drawn config.matcher config.tags) front

  countable : AreCountable all
  countable = record { units = can.units; lawful = can.lawful; values = can.values }

  few : length (replay (view_rules config).names workers log).metrics ≤ MAX_METRICS
  few = (run_kept_all (view_rules config).names (empty workers) log (empty_run workers) can.legal.steps).few

  -- the full names are texts
  pub texts : (metrics : List NumberedMetric)
      → metrics ≡ by_name row_name (numbered_metrics (state_after config.tags workers log).state)
      → All (λ (numbered : NumberedMetric). IsUtf8 numbered.1.name) metrics
  texts metrics are =
      let s : State = (state_after config.tags workers log).state in
      subst (λ (l : List NumberedMetric). All (λ (numbered : NumberedMetric). IsUtf8 numbered.1.name) l) (sym are)
      (All-from_recursion (λ (numbered : NumberedMetric). IsUtf8 numbered.1.name) (by_name row_name (numbered_metrics s))
      (all_in_order (λ (numbered : NumberedMetric). IsUtf8 numbered.1.name) (numbered_metrics s)
      (names_within IsUtf8 0 (metrics_of s) (names_are_texts first refl refl log log_next))))

  -- there is room for the parts of the flush
  pub alone : (count : ℕ) → HasRoomForAll (replicate count None) flush.parts
  alone count = room_alone all countable (length flushes) flush (last_of flushes flush) count

  module _ (old : Progress) (had : HasSums MAX_METRICS flushes old) where
    had_front : HasSums MAX_METRICS (take (length flushes) all) old
    had_front = subst (λ (l : List FlushRecord). HasSums MAX_METRICS l old) (sym (take-append_seam flushes (flush ∷ []))) had

    pub beside : HasRoomForAll old.cumulative.items flush.parts
    beside = room_beside all countable (length flushes) flush (last_of flushes flush) MAX_METRICS old.cumulative.items
        had_front.slots had_front.bins

    module _ (new : Progress) (follows : Follows flush old new) where
      has_front : HasSums MAX_METRICS (take (suc (length flushes)) all) new
      has_front = followed_on all countable (length flushes) flush (last_of flushes flush) MAX_METRICS old new had_front follows

      -- the sums are those of all flushes so far
      pub sums : HasSums MAX_METRICS all new
      sums = subst (λ (l : List FlushRecord). HasSums MAX_METRICS l new) (whole_of flushes flush) has_front

      -- the view that is made is that of the flush
      pub is_view : (before : Before) (metrics : List NumberedMetric)
          → before ≡ before_of (state_after config.tags workers (take flush.at log)).state
          → metrics ≡ by_name row_name (numbered_metrics (state_after config.tags workers log).state)
          → view_kept (view_rules config).bounds before
          (kept_of (length metrics) flush new.totals.items new.cumulative.items) metrics
          ≡ view_so_far (view_rules config) workers log flush all
      is_view before metrics known are =
          view_in all countable (length flushes) flush (last_of flushes flush) (view_rules config).bounds
          (replay (view_rules config).names workers (take flush.at log))
          (replay (view_rules config).names workers log) MAX_METRICS before new metrics few has_front
          (known ∙ ap before_of (stored_is (take flush.at log)))
          (are ∙ ap (λ (s : State). by_name row_name (numbered_metrics s)) (stored_is log))
          ∙ ap (λ (l : List FlushRecord). view_so_far (view_rules config) workers log flush l) (whole_of flushes flush)

  -- its histograms have the bins that texts ask for
  pub bins : (shown : FlushView) → shown ≡ view_so_far (view_rules config) workers log flush all
      → All HasBinsShown shown.histograms
  bins shown is =
      let rules = view_rules config in
      let numbered : List NumberedMetric =
      metrics_shown Histogram (has_histogram_row (replay rules.names workers (take flush.at log)) flush)
      (replay rules.names workers log) in
      subst (λ (v : FlushView). All HasBinsShown v.histograms) (sym is)
      (All-map HasBinsShown (histogram_row rules.bounds flush all) numbered
      (λ j d below.
      subst (λ (l : List FlushRecord). HasBinsShown (histogram_row rules.bounds flush l (get_or numbered j d)))
      (whole_of flushes flush)
      (row_bins all (length flushes) flush rules.bounds (get_or numbered j d) countable (last_of flushes flush))))

pub report_shows : ReportShows
report_shows = record {
  view = λ rules log flush so_far. refl;
  shown = λ config report is. record {
    legal = is.legal;
    workers_few = is.workers;
    calls = is.calls;
    rising = is.rising;
    units = is.units;
    lawful = is.lawful;
    values = is.values;
  };
}
