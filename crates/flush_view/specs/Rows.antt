-- The rows of a view from what is kept by the numbers of metrics. This project's own.
use Rattle.std.specs.Prelude.{ℕ, ◌&&◌, ◌||◌, nat_lt, Bool, List, map, filter, slice_index}
use Rattle.std.specs.Int.{w64, cast_signed}
use Rattle.stat_defs.specs.declared.bins.Bound.{Bound}
use Rattle.stat_defs.specs.declared.ids.Kind.{Kind}
use Rattle.stat_defs.specs.declared.ids.Kind.TheVariants.{Counter, Gauge, Histogram, Text}
use Rattle.stat_defs.specs.declared.views.CounterRow.{CounterRow}
use Rattle.stat_defs.specs.declared.views.FlushView.{FlushView}
use Rattle.stat_defs.specs.declared.views.GaugeRow.{GaugeRow}
use Rattle.stat_defs.specs.declared.views.HistRow.{HistRow}
use Rattle.stat_defs.specs.declared.views.TextRow.{TextRow}
use Rattle.stat_defs.specs.Keys.{same_kind}
use Rattle.merge_round.specs.Slots.{Slots, bins_at, is_warm_at}
use Rattle.flush_view.specs.Before.{Before, is_left, text_left}
use Rattle.flush_view.specs.Views.{NumberedMetric}

-- the metrics of a kind whose numbers pass, in the order in which they stand
abbrev pub picked : Kind → (ℕ → Bool) → List NumberedMetric → List NumberedMetric
picked kind passes metrics = filter (λ numbered. same_kind numbered.1.kind kind && passes numbered.0) metrics

-- which counters have a row, where these are the units of the flush, and which histograms, where these are its bins
abbrev pub shows_counter : Before → List ℕ → ℕ → Bool
shows_counter before units id = is_left before id || nat_lt 0 (slice_index units id)

abbrev pub shows_histogram : Before → Slots → ℕ → Bool
shows_histogram before intervals id = is_left before id || is_warm_at intervals id

-- the row of a counter with these units and totals
abbrev pub counter_at : List ℕ → List ℕ → NumberedMetric → CounterRow
counter_at units totals numbered = record {
  name = numbered.1.name;
  tagged = numbered.1.tagged;
  delta = slice_index units numbered.0;
  total = slice_index totals numbered.0;
}

-- the row of a gauge with these words
abbrev pub gauge_at : List ℕ → NumberedMetric → GaugeRow
gauge_at words numbered = record {
  name = numbered.1.name;
  tagged = numbered.1.tagged;
  value = cast_signed w64 (slice_index words numbered.0);
}

-- the row of a readout with the text that it held
abbrev pub text_at : Before → NumberedMetric → TextRow
text_at before numbered = record { name = numbered.1.name; text = text_left before numbered.0 }

-- the row of a histogram with these bins, of the flush and of all so far
abbrev pub histogram_at : (List ℕ → List Bound) → Slots → Slots → NumberedMetric → HistRow
histogram_at bounds intervals cumulative numbered = record {
  name = numbered.1.name;
  tagged = numbered.1.tagged;
  interval = bins_at intervals numbered.0;
  cumulative = bins_at cumulative numbered.0;
  bounds = bounds numbered.1.name;
}

-- the figures by number: the units, words and bins that one flush took, and all units and bins so far
pub record Figures : Type 0 where
  pub units : List ℕ
  pub words : List ℕ
  pub intervals : Slots
  pub totals : List ℕ
  pub cumulative : Slots

-- the view of these metrics, where this is known before the sweep
abbrev pub view_kept : (List ℕ → List Bound) → Before → Figures → List NumberedMetric → FlushView
view_kept bounds before figures metrics = record {
  counters = map (counter_at figures.units figures.totals)
      (picked Counter (shows_counter before figures.units) metrics);
  gauges = map (gauge_at figures.words) (picked Gauge (is_left before) metrics);
  texts = map (text_at before) (picked Text (is_left before) metrics);
  histograms = map (histogram_at bounds figures.intervals figures.cumulative)
      (picked Histogram (shows_histogram before figures.intervals) metrics);
}
