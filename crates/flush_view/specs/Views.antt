-- What one flush of a report shows (Envoy's statistics overview: counters, gauges, histograms and text
-- readouts at each flush; which of them have a row, and in which order, is this project's own).
use Rattle.std.specs.Prelude.{◌≡◌, ℕ, suc, ◌==◌, ◌&&◌, ◌||◌, nat_lt, Bool, false, Option, Some, option_map, List, []}
use Rattle.std.specs.Prelude.{◌∷◌, ◌++◌, map, filter, fold, take, slice_get, count_by, sum_by}
use Rattle.std.specs.Int.{w64, cast_signed}
use Rattle.std.specs.List.{enumerate_from, flat_map, list_any}
use Rattle.std.specs.Option.{option_map_or}
use Rattle.stat_defs.specs.declared.bins.BinCount.{BinCount}
use Rattle.stat_defs.specs.declared.bins.Bound.{Bound}
use Rattle.stat_defs.specs.declared.configs.Config.{Config}
use Rattle.stat_defs.specs.declared.history.Entry.{Entry}
use Rattle.stat_defs.specs.declared.ids.Kind.{Kind}
use Rattle.stat_defs.specs.declared.ids.Kind.TheVariants.{Counter, Gauge, Histogram, Text}
use Rattle.stat_defs.specs.declared.metrics.Metric.{Metric}
use Rattle.stat_defs.specs.declared.reports.FlushRecord.{FlushRecord}
use Rattle.stat_defs.specs.declared.reports.LogNames.{LogNames}
use Rattle.stat_defs.specs.declared.reports.Part.{Part}
use Rattle.stat_defs.specs.declared.reports.Report.{Report}
use Rattle.stat_defs.specs.declared.views.CounterRow.{CounterRow}
use Rattle.stat_defs.specs.declared.views.FlushView.{FlushView}
use Rattle.stat_defs.specs.declared.views.GaugeRow.{GaugeRow}
use Rattle.stat_defs.specs.declared.views.HistRow.{HistRow}
use Rattle.stat_defs.specs.declared.views.TextRow.{TextRow}
use Rattle.stat_defs.specs.Keys.{same_kind}
use Rattle.loglinear_bins.specs.Counts.{merged}
use Rattle.tag_rules.specs.Bounds.{bounds_for}
use Rattle.book_state.specs.State.{NameRules, State, metrics_of}
use Rattle.book_state.specs.Log.{replay}
use Rattle.book_state.specs.SeatLaws.{is_end}
use Rattle.name_changes.specs.Changes.{names_in_log}
use Rattle.stat_book.specs.Calls.{name_rules}
use Rattle.ledger.specs.Flushes.{flushed_in, flushed}
use Rattle.ledger.specs.OneReport.{is_not_gone}
use Rattle.ledger.specs.Readings.{word_on}
use Rattle.flush_view.specs.ByName.{by_name}

-- what a view is told of full names: the rules of the book, and the bounds of a histogram's buckets
pub record ViewRules : Type 0 where
  pub names : NameRules
  pub bounds : List ℕ → List Bound

abbrev pub view_rules : Config → ViewRules
view_rules config = record {
  names = name_rules config.matcher config.tags;
  bounds = bounds_for config.buckets;
}

-- how many ends stand in a log: each worker of a report has one
abbrev pub ends_in : List Entry → ℕ
ends_in log = count_by (λ (e : Entry). is_end e.call) log

-- the book before the sweep of a flush, and after the whole log
abbrev pub state_before : NameRules → List Entry → FlushRecord → State
state_before rules log flush = replay rules (ends_in log) (take flush.at log)

abbrev pub last_state : NameRules → List Entry → State
last_state rules log = replay rules (ends_in log) log

-- what became of the names in a log
abbrev pub names_shown : NameRules → List Entry → LogNames
names_shown rules log = names_in_log rules (ends_in log) log

-- a metric with its number
abbrev pub NumberedMetric : Type 0
NumberedMetric = ℕ × Metric

abbrev pub numbered_metrics : State → List NumberedMetric
numbered_metrics s = enumerate_from 0 (metrics_of s)

-- rows stand by full name
abbrev pub row_name : NumberedMetric → List ℕ
row_name numbered = numbered.1.name

-- the metrics of this kind whose numbers pass, in byte order of full names, and those of one name by number
abbrev pub metrics_shown : Kind → (ℕ → Bool) → State → List NumberedMetric
metrics_shown kind passes s =
    by_name row_name
    (filter (λ numbered. same_kind numbered.1.kind kind && passes numbered.0) (numbered_metrics s))

-- the metric of this number was made and is not gone
abbrev pub has_not_gone : State → ℕ → Bool
has_not_gone s id = option_map_or is_not_gone (slice_get s.metrics id) false

-- the part is of the histogram of this number
abbrev pub is_part_on : ℕ → Part → Bool
is_part_on id part = part.id.0 == id

-- the parts of a histogram in a flush
abbrev pub parts_on : ℕ → FlushRecord → List Part
parts_on id flush = filter (is_part_on id) flush.parts

-- the bins of all these parts together
abbrev pub merged_parts : List Part → List BinCount
merged_parts parts = fold merged [] (map (λ part. part.bins) parts)

-- A counter has a row where it was not gone before the sweep, or has units in the flush.
abbrev pub has_counter_row : State → FlushRecord → ℕ → Bool
has_counter_row before flush id = has_not_gone before id || nat_lt 0 (flushed_in id flush)

-- A histogram has a row where it was not gone before the sweep, or has a part in the flush.
abbrev pub has_histogram_row : State → FlushRecord → ℕ → Bool
has_histogram_row before flush id = has_not_gone before id || list_any (is_part_on id) flush.parts

-- its units since the flush before, and in all flushes so far, of which this flush is the last
abbrev pub counter_row : FlushRecord → List FlushRecord → NumberedMetric → CounterRow
counter_row flush so_far numbered = record {
  name = numbered.1.name;
  tagged = numbered.1.tagged;
  delta = flushed_in numbered.0 flush;
  total = flushed numbered.0 so_far;
}

-- its word in the flush, as a signed number
abbrev pub gauge_row : FlushRecord → NumberedMetric → GaugeRow
gauge_row flush numbered = record {
  name = numbered.1.name;
  tagged = numbered.1.tagged;
  value = cast_signed w64 (sum_by (word_on numbered.0) flush.gauges);
}

-- the text that it held before the sweep
abbrev pub text_row : State → NumberedMetric → TextRow
text_row before numbered = record {
  name = numbered.1.name;
  text = option_map_or (λ row. row.metric.text) (slice_get before.metrics numbered.0) [];
}

-- its values since the flush before, and in all flushes so far
abbrev pub histogram_row : (List ℕ → List Bound) → FlushRecord → List FlushRecord → NumberedMetric → HistRow
histogram_row bounds flush so_far numbered = record {
  name = numbered.1.name;
  tagged = numbered.1.tagged;
  interval = merged_parts (parts_on numbered.0 flush);
  cumulative = merged_parts (flat_map (parts_on numbered.0) so_far);
  bounds = bounds numbered.1.name;
}

-- A flush shows each metric that was not gone before its sweep, each counter with units in it, and each
-- histogram with a part in it. Names, kinds and tags are those of the whole log.
abbrev pub view_of : ViewRules → List Entry → FlushRecord → List FlushRecord → FlushView
view_of rules log flush so_far =
    let before = state_before rules.names log flush in
    let last = last_state rules.names log in
    record {
      counters = map (counter_row flush so_far) (metrics_shown Counter (has_counter_row before flush) last);
      gauges = map (gauge_row flush) (metrics_shown Gauge (has_not_gone before) last);
      texts = map (text_row before) (metrics_shown Text (has_not_gone before) last);
      histograms = map (histogram_row rules.bounds flush so_far)
          (metrics_shown Histogram (has_histogram_row before flush) last);
    }

-- the view of flush k; flushes are numbered from 0, and there is none past the last
abbrev pub view : ViewRules → List Entry → List FlushRecord → ℕ → Option FlushView
view rules log flushes k =
    option_map (λ flush. view_of rules log flush (take (suc k) flushes)) (slice_get flushes k)

-- the views of flushes behind earlier ones
abbrev pub views_behind : ViewRules → List Entry → List FlushRecord → List FlushRecord → List FlushView
views_behind rules log earlier [] = []
views_behind rules log earlier (flush ∷ flushes) =
    let so_far = earlier ++ flush ∷ [] in
    view_of rules log flush so_far ∷ views_behind rules log so_far flushes

-- the views of all flushes, in order
abbrev pub views : ViewRules → List Entry → List FlushRecord → List FlushView
views rules log flushes = views_behind rules log [] flushes

-- what flush k of a report shows under a configuration
abbrev pub IsView : Config → Report → ℕ → FlushView → Type 0
IsView config report k shown = view (view_rules config) report.log report.flushes k ≡ Some shown
