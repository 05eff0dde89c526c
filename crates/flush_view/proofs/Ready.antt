-- What holds where all is ready for a view.
use Rattle.std.proofs.Common.{◌≡◌, ℕ, suc, ◌+◌, ◌<◌, Option, Some, None, List, take, length, slice_get, get_or, refl, ap, sym, ◌∙◌, subst, arith, IsUtf8}
use Rattle.std.specs.Prelude.{option_map}
use Rattle.std.specs.List.{AllByRecursion}
use Rattle.std.proofs.lemmas.List.{length-replicate}
use Rattle.stat_defs.specs.declared.bins.BinCount.{BinCount}
use Rattle.stat_defs.specs.declared.configs.Config.{Config}
use Rattle.stat_defs.specs.declared.configs.TagSpec.{TagSpec}
use Rattle.stat_defs.specs.declared.history.Entry.{Entry}
use Rattle.stat_defs.specs.declared.metrics.Metric.{Metric}
use Rattle.stat_defs.specs.declared.reports.FlushRecord.{FlushRecord}
use Rattle.stat_defs.specs.declared.reports.Report.{Report}
use Rattle.merge_round.specs.Slots.{Slots, held, bins_at}
use Rattle.book_state.specs.Log.{replay}
use Rattle.book_state.specs.State.{State, metrics_of}
use Rattle.book_state.specs.Stored.{StateView, IsLawfulCall}
use Rattle.book_state.proofs.Lists.{get_map, get_within, some_same}
use Rattle.flush_view.specs.declared.progress.Progress.{Progress}
use Rattle.flush_view.specs.Before.{Before, before_of}
use Rattle.flush_view.specs.Kept.{HasFollowed, Follows, IsAtStart, metrics_made, last_book, ordered_metrics, befores_of, kept_of}
use Rattle.flush_view.specs.Replaying.{AreNext, first_state, state_after}
use Rattle.flush_view.specs.Rows.{view_kept}
use Rattle.flush_view.specs.Showing.{IsShowable}
use Rattle.flush_view.specs.ViewsKept.{IsReady}
use Rattle.flush_view.specs.Views.{NumberedMetric, numbered_metrics, view_rules, view_of, view, state_before, ends_in}
use Rattle.flush_view.proofs.FullNames.{names_are_texts}
use Rattle.flush_view.proofs.Following.{countable, no_bins_at, no_sum_at}
use Rattle.flush_view.proofs.Picked.{all_in_order, names_within}
use Rattle.flush_view.proofs.Replayed.{tags_drawn, all_next, state_replayed}
use Rattle.flush_view.proofs.Viewing.{followed_on, view_is}

pub next_same : (tags tags' : List TagSpec) (n n' : ℕ) (log log' : List Entry) → tags ≡ tags' → n ≡ n' → log ≡ log'
    → AreNext (first_state tags' n') log' → AreNext (first_state tags n) log
next_same tags tags' n n' log log' a b c next =
    subst (λ (t : List TagSpec). AreNext (first_state t n) log) (sym a)
    (subst (λ (m : ℕ). AreNext (first_state tags' m) log) (sym b)
    (subst (λ (l : List Entry). AreNext (first_state tags' n') l) (sym c) next))

module _ (config : Config) (report : Report) where
  abbrev first : StateView
  first = first_state config.tags (ends_in report.log)

  -- the entries of a showable report are steps, where their calls are lawful
  pub log_next : IsShowable config report → AllByRecursion (λ (e : Entry). IsLawfulCall e.call) report.log
      → AreNext first report.log
  log_next can lawful =
      all_next (view_rules config).names config.tags (ends_in report.log)
      (tags_drawn config.matcher config.tags) report.log can.legal.steps lawful

  -- the stored state is that of the replay
  pub stored_is : (log : List Entry)
      → (state_after config.tags (ends_in report.log) log).state
      ≡ replay (view_rules config).names (ends_in report.log) log
  stored_is log =
      state_replayed (view_rules config).names config.tags (ends_in report.log)
      (tags_drawn config.matcher config.tags) log

  -- the full names are texts
  pub ordered_texts : AreNext first report.log
      → AllByRecursion (λ (numbered : NumberedMetric). IsUtf8 numbered.1.name) (ordered_metrics config report)
  ordered_texts next =
      all_in_order (λ (numbered : NumberedMetric). IsUtf8 numbered.1.name) (numbered_metrics (last_book config report))
      (names_within IsUtf8 0 (metrics_of (last_book config report))
      (subst (λ (s : State). AllByRecursion (λ (metric : Metric). IsUtf8 metric.name) (metrics_of s))
      (stored_is report.log)
      (names_are_texts first refl refl report.log next)))

  -- before the first flush
  pub started : (count : ℕ) (progress : Progress) → IsAtStart count progress → count ≡ metrics_made config report
      → HasFollowed config report 0 progress
  started count progress start same_count = record {
    sums = ap length start.totals ∙ length-replicate {A = ℕ} count 0 ∙ same_count;
    slots = ap length start.cumulative ∙ length-replicate {A = Option (List BinCount)} count None ∙ same_count;
    totals = λ id below. ap (λ (l : List ℕ). get_or l id 0) start.totals ∙ no_sum_at count id;
    bins = λ id below. ap (λ (l : Slots). bins_at l id) start.cumulative ∙ ap held (no_bins_at count id);
  }

  module _ (k : ℕ) (progress : Progress) (ready : IsReady config report k progress) (flush : FlushRecord)
      (at : slice_get report.flushes k ≡ Some flush) where
    module _ (befores : List Before) (are : befores ≡ befores_of config report) where
      before_got : slice_get befores k ≡ Some (before_of (state_before (view_rules config).names report.log flush))
      before_got =
          ap (λ (l : List Before). slice_get l k) are
          ∙ get_map (λ (f : FlushRecord). before_of (state_before (view_rules config).names report.log f)) report.flushes k
          ∙ ap (option_map (λ (f : FlushRecord). before_of (state_before (view_rules config).names report.log f))) at

      -- what is known before the sweep of the flush is there
      pub before_there : k < length befores
      before_there =
          get_within befores k (before_of (state_before (view_rules config).names report.log flush)) before_got

      pub before_is : (before : Before) → slice_get befores k ≡ Some before
          → before ≡ before_of (state_before (view_rules config).names report.log flush)
      before_is before read = some_same before _ (sym read ∙ before_got)

    module _ (new : Progress) (follows : Follows flush progress new) where
      followed : HasFollowed config report (suc k) new
      followed = followed_on report.flushes (countable config report ready.showable) k flush at (metrics_made config report) progress
          new ready.followed follows

      pub ready_next : IsReady config report (k + 1) new
      ready_next = let next : suc k ≡ k + 1 = omega arith in record {
        showable = ready.showable;
        next = ready.next;
        followed = subst (λ (n : ℕ). HasFollowed config report n new) next followed;
      }

      -- the view that is made is the one of the flush
      pub view_shown : (before : Before) (metrics : List NumberedMetric)
          → before ≡ before_of (state_before (view_rules config).names report.log flush)
          → metrics ≡ ordered_metrics config report
          → Some (view_kept (view_rules config).bounds before
          (kept_of (length metrics) flush new.totals.items new.cumulative.items) metrics)
          ≡ view (view_rules config) report.log report.flushes k
      view_shown before metrics known is =
          ap Some (view_is config report ready.showable k flush at before new metrics followed known is)
          ∙ sym (ap
          (option_map
          (λ (f : FlushRecord). view_of (view_rules config) report.log f (take (suc k) report.flushes))) at)
