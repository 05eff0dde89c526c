-- The view that is made of what is kept is the view of the flush, and what is kept goes on with it.
use Rattle.std.proofs.Common.{◌≡◌, ℕ, suc, ◌+◌, ◌<◌, ◌≤◌, ◌||◌, ◌&&◌, min, nat_lt, Bool, true, false, Some, None, List, [], ◌∷◌, map, take, length, get_or, replicate, slice_get, cond, refl, ap, sym, ◌∙◌, arith, inl, inr}
use Rattle.std.specs.List.{flat_map, AllByRecursion}
use Rattle.std.proofs.lemmas.Bool.Decides.{leb_tells}
use Rattle.std.proofs.lemmas.List.{length-map, take_all}
use Rattle.std.proofs.lemmas.List.FromFn.{length-enumerate_from}
use Rattle.stat_defs.specs.declared.bins.Bound.{Bound}
use Rattle.stat_defs.specs.declared.configs.Config.{Config}
use Rattle.stat_defs.specs.declared.history.Entry.{Entry}
use Rattle.stat_defs.specs.declared.ids.Kind.{Kind}
use Rattle.stat_defs.specs.declared.ids.Kind.TheVariants.{Counter, Gauge, Histogram, Text}
use Rattle.stat_defs.specs.declared.reports.FlushRecord.{FlushRecord}
use Rattle.stat_defs.specs.declared.reports.Report.{Report}
use Rattle.stat_defs.specs.Keys.{same_kind}
use Rattle.merge_round.specs.Slots.{Slots, bins_at}
use Rattle.book_state.specs.State.{State, metrics_of}
use Rattle.book_state.proofs.Lists.{true_false}
use Rattle.ledger.specs.Flushes.{flushed}
use Rattle.flush_view.specs.Before.{Before, before_of, is_left}
use Rattle.flush_view.specs.ByName.{comes_before, put_by_name, by_name}
use Rattle.flush_view.specs.declared.progress.Progress.{Progress}
use Rattle.flush_view.specs.Kept.{HasFollowed, HasSums, Follows, metrics_made, last_book, ordered_metrics, kept_of}
use Rattle.flush_view.specs.Rows.{view_kept, picked, shows_counter, shows_histogram, counter_at, gauge_at, text_at, histogram_at}
use Rattle.flush_view.specs.Showing.{IsShowable}
use Rattle.flush_view.specs.Sums.{with_deltas, with_readings, with_parts}
use Rattle.flush_view.specs.Views.{NumberedMetric, row_name, numbered_metrics, metrics_shown, has_not_gone, has_counter_row, has_histogram_row, counter_row, gauge_row, text_row, histogram_row, view_rules, view_of, state_before, merged_parts, parts_on}
use Rattle.flush_view.proofs.Befores.{left_same, text_same}
use Rattle.flush_view.proofs.ByNumber.{length-with_deltas, length-with_parts}
use Rattle.flush_view.proofs.Following.{AreCountable, countable, totals_behind, bins_behind, units_alone, intervals_alone, words_alone}
use Rattle.flush_view.proofs.Picked.{metrics_picked, all_in_order, ids_within, same_rows, passing_rows}

each_so : {X : Type 0} (P Q : X → Type 0) → ((x : X) → P x → Q x) → (xs : List X) → AllByRecursion P xs
    → AllByRecursion Q xs
each_so P Q so [] all = tt
each_so P Q so (x ∷ xs) all = (so x all.0, each_so P Q so xs all.1)

length-put : {X : Type 0} (name : X → List ℕ) (x : X) (xs : List X) → length (put_by_name name x xs) ≡ suc (length xs)
length-put name x [] = refl
length-put name x (y ∷ ys) = by_case (comes_before name y x) (length-put name x ys) where
  by_case : (b : Bool) → length (put_by_name name x ys) ≡ suc (length ys)
      → length (cond b (y ∷ put_by_name name x ys) (x ∷ y ∷ ys)) ≡ suc (suc (length ys))
  by_case true rest = ap suc rest
  by_case false rest = refl

pub length-by_name : {X : Type 0} (name : X → List ℕ) (xs : List X) → length (by_name name xs) ≡ length xs
length-by_name name [] = refl
length-by_name name (x ∷ xs) = length-put name x (by_name name xs) ∙ ap suc (length-by_name name xs)

-- a flush whose place is past the log's end has the whole log before it
pub taken_to : (n : ℕ) (log : List Entry) → take (min n (length log)) log ≡ take n log
taken_to n log = elim (leb_tells n (length log)) [
  | inl h ↦ let low = h.1 in ap (λ (m : ℕ). take m log) (omega (arith, low))
  | inr h ↦
      let past = h.1 in
      let whole : min n (length log) ≡ length log = omega (arith, past) in
      ap (λ (m : ℕ). take m log) whole ∙ take_all (length log) log (omega arith)
      ∙ sym (take_all n log (omega (arith, past)))
]

both_pass : (a b : Bool) → (a && b) ≡ true → b ≡ true
both_pass true b pass = pass
both_pass false b pass = absurd (true_false (sym pass))

module _ (flushes : List FlushRecord) (can : AreCountable flushes) (k : ℕ) (flush : FlushRecord)
    (at : slice_get flushes k ≡ Some flush) where
  pub followed_on : (count : ℕ) (old new : Progress) → HasSums count (take k flushes) old → Follows flush old new
      → HasSums count (take (suc k) flushes) new
  followed_on count old new was follows =
      let long = length-with_deltas old.totals.items flush.deltas in
      let wide = length-with_parts old.cumulative.items flush.parts in
      let had = was.sums in
      let held = was.slots in
      record {
        sums = ap length follows.totals ∙ long ∙ had;
        slots = ap length follows.cumulative ∙ wide ∙ held;
        totals = λ id below.
            ap (λ (l : List ℕ). get_or l id 0) follows.totals
            ∙ totals_behind flushes can k flush at old.totals.items id (omega (arith, below, had))
            (was.totals id below);
        bins = λ id below.
            ap (λ (l : Slots). bins_at l id) follows.cumulative
            ∙ bins_behind flushes can k flush at old.cumulative.items id (omega (arith, below, held))
            (was.bins id below);
      }

  module _ (bounds : List ℕ → List Bound) (before last : State) (totals : List ℕ) (cumulative : Slots)
      (total_at : (id : ℕ) → id < length last.metrics
      → get_or totals id 0 ≡ flushed id (take (suc k) flushes))
      (all_at : (id : ℕ) → id < length last.metrics
      → bins_at cumulative id ≡ merged_parts (flat_map (parts_on id) (take (suc k) flushes)))
      (count : ℕ) (counts : count ≡ length last.metrics) where
    abbrev so_far : List FlushRecord
    so_far = take (suc k) flushes

    abbrev ordered : List NumberedMetric
    ordered = by_name row_name (numbered_metrics last)

    within : AllByRecursion (λ (numbered : NumberedMetric). numbered.0 < count) ordered
    within =
        let long = length-map last.metrics (λ row. row.metric) in
        each_so (λ (numbered : NumberedMetric). numbered.0 < 0 + length (metrics_of last))
        (λ numbered. numbered.0 < count)
        (λ numbered below. omega (arith, below, long, counts)) ordered
        (all_in_order (λ (numbered : NumberedMetric). numbered.0 < 0 + length (metrics_of last))
        (numbered_metrics last) (ids_within 0 (metrics_of last)))

    module _ {R : Type 0} (kind : Kind) (f g : NumberedMetric → R) (p q : ℕ → Bool)
        (same : (numbered : NumberedMetric) → numbered.0 < count
        → (f numbered ≡ g numbered) × (p numbered.0 ≡ q numbered.0)) where
      rows_same : map f (picked kind p ordered) ≡ map g (metrics_shown kind q last)
      rows_same =
          same_rows f g (λ numbered. same_kind numbered.1.kind kind && p numbered.0)
          (λ numbered. same_kind numbered.1.kind kind && q numbered.0) ordered
          (each_so (λ (numbered : NumberedMetric). numbered.0 < count) _
          (λ numbered below. (
            (same numbered below).0,
            ap (λ b. same_kind numbered.1.kind kind && b)
                (same numbered below).1,
          )) ordered within)
          ∙ ap (map g) (metrics_picked kind q last)

    counters_same : map (counter_at (with_deltas (replicate count 0) flush.deltas) totals)
        (picked Counter (shows_counter (before_of before) (with_deltas (replicate count 0) flush.deltas)) ordered)
        ≡ map (counter_row flush so_far) (metrics_shown Counter (has_counter_row before flush) last)
    counters_same = rows_same Counter _ _ _ _ (λ numbered below.
        let delta = units_alone flushes can k flush at count numbered.0 below in
        let total = total_at numbered.0 (omega (arith, below, counts)) in (
          λ i. record { name = numbered.1.name; tagged = numbered.1.tagged; delta = delta i; total = total i },
          λ i. left_same before numbered.0 i || nat_lt 0 (delta i),
        ))

    gauges_same : map (gauge_at (with_readings (replicate count 0) flush.gauges))
        (picked Gauge (is_left (before_of before)) ordered)
        ≡ map (gauge_row flush) (metrics_shown Gauge (has_not_gone before) last)
    gauges_same = rows_same Gauge _ _ _ _ (λ numbered below.
        let word = words_alone flush count numbered.0 below in
        (λ i. record { name = numbered.1.name; tagged = numbered.1.tagged; value = word i }, left_same before numbered.0))

    texts_same : map (text_at (before_of before)) (picked Text (is_left (before_of before)) ordered)
        ≡ map (text_row before) (metrics_shown Text (has_not_gone before) last)
    texts_same =
        passing_rows (text_at (before_of before)) (text_row before)
        (λ numbered. same_kind numbered.1.kind Text && is_left (before_of before) numbered.0) ordered
        (λ numbered pass.
        text_same before numbered
        (both_pass (same_kind numbered.1.kind Text) (is_left (before_of before) numbered.0) pass))
        ∙ (λ i. map (text_row before) (picked Text (λ id. left_same before id i) ordered))
        ∙ ap (map (text_row before)) (metrics_picked Text (has_not_gone before) last)

    histograms_same : map (histogram_at bounds (with_parts (replicate count None) flush.parts) cumulative)
        (picked Histogram (shows_histogram (before_of before) (with_parts (replicate count None) flush.parts)) ordered)
        ≡ map (histogram_row bounds flush so_far) (metrics_shown Histogram (has_histogram_row before flush) last)
    histograms_same = rows_same Histogram _ _ _ _ (λ numbered below.
        let alone = intervals_alone flushes can k flush at count numbered.0 below in
        let all = all_at numbered.0 (omega (arith, below, counts)) in (
          λ i. record {
            name = numbered.1.name;
            tagged = numbered.1.tagged;
            interval = alone.0 i;
            cumulative = all i;
            bounds = bounds numbered.1.name;
          },
          λ i. left_same before numbered.0 i || alone.1 i,
        ))

    rows_kept : view_kept bounds (before_of before) (kept_of count flush totals cumulative) ordered
        ≡ record {
          counters = map (counter_row flush so_far) (metrics_shown Counter (has_counter_row before flush) last);
          gauges = map (gauge_row flush) (metrics_shown Gauge (has_not_gone before) last);
          texts = map (text_row before) (metrics_shown Text (has_not_gone before) last);
          histograms =
              map (histogram_row bounds flush so_far) (metrics_shown Histogram (has_histogram_row before flush) last);
        }
    rows_kept = λ i. record {
      counters = counters_same i;
      gauges = gauges_same i;
      texts = texts_same i;
      histograms = histograms_same i;
    }

  -- The view of the figures that are kept behind the flush, where these are the book before its sweep and the book
  -- whose metrics are shown. The sums may be of more metrics.
  pub view_in : (bounds : List ℕ → List Bound) (state last : State) (most : ℕ) (before : Before) (new : Progress)
      (metrics : List NumberedMetric)
      → length last.metrics ≤ most → HasSums most (take (suc k) flushes) new
      → before ≡ before_of state → metrics ≡ by_name row_name (numbered_metrics last)
      → view_kept bounds before (kept_of (length metrics) flush new.totals.items new.cumulative.items) metrics
      ≡ record {
        counters = map (counter_row flush (take (suc k) flushes))
            (metrics_shown Counter (has_counter_row state flush) last);
        gauges = map (gauge_row flush) (metrics_shown Gauge (has_not_gone state) last);
        texts = map (text_row state) (metrics_shown Text (has_not_gone state) last);
        histograms = map (histogram_row bounds flush (take (suc k) flushes))
            (metrics_shown Histogram (has_histogram_row state flush) last);
      }
  view_in bounds state last most before new metrics few has known is =
      let count : length (by_name row_name (numbered_metrics last)) ≡ length last.metrics =
      length-by_name row_name (numbered_metrics last)
      ∙ length-enumerate_from 0 (metrics_of last)
      ∙ length-map last.metrics (λ row. row.metric) in
      (λ i. view_kept bounds (known i)
      (kept_of (length (is i)) flush new.totals.items new.cumulative.items) (is i))
      ∙ rows_kept bounds state last new.totals.items new.cumulative.items
      (λ id below. has.totals id (omega (arith, below, few)))
      (λ id below. has.bins id (omega (arith, below, few)))
      (length (by_name row_name (numbered_metrics last))) count

module _ (config : Config) (report : Report) (can : IsShowable config report) (k : ℕ) (flush : FlushRecord)
    (at : slice_get report.flushes k ≡ Some flush) where
  -- the view of the figures that are kept behind the flush of a report
  pub view_is : (before : Before) (new : Progress) (metrics : List NumberedMetric)
      → HasFollowed config report (suc k) new
      → before ≡ before_of (state_before (view_rules config).names report.log flush)
      → metrics ≡ ordered_metrics config report
      → view_kept (view_rules config).bounds before
      (kept_of (length metrics) flush new.totals.items new.cumulative.items) metrics
      ≡ view_of (view_rules config) report.log flush (take (suc k) report.flushes)
  view_is before new metrics followed known is =
      view_in report.flushes (countable config report can) k flush at (view_rules config).bounds
      (state_before (view_rules config).names report.log flush) (last_book config report)
      (metrics_made config report) before new metrics (omega arith) followed known is
