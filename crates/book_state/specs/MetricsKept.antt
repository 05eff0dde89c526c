-- What the fields of a table of metrics keep.
use Rattle.std.specs.Prelude.{◌≡◌, ◌≤◌, ℕ, List, length, map}
use Rattle.stat_defs.specs.declared.metrics.Metric.{Metric}
use Rattle.book_state.specs.declared.limits.TheConstants.{MAX_METRICS}
use Rattle.book_state.specs.declared.metrics.MetricTable.TheInside.{Inside}
use Rattle.book_state.specs.declared.metrics.MetricRow.{MetricRow}
use Rattle.book_state.specs.declared.tables.NameKey.{NameKey}
use Rattle.book_state.specs.State.{histograms_in}
use Rattle.book_state.specs.Metrics.{metric_of, names_from}

-- the indexes are those of these metrics
pub record IsIndexed (metrics : List Metric) (known : List (NameKey × ℕ)) (histograms : ℕ) : Type 0 where
  pub few : length metrics ≤ MAX_METRICS
  -- the names that are not gone, in the order of their numbers
  pub known_are : known ≡ names_from 0 metrics
  pub histograms_are : histograms ≡ histograms_in metrics

abbrev pub shown : Inside → List MetricRow
shown b = b.rows.items

abbrev pub Kept : Inside → Type 0
Kept b = IsIndexed (map metric_of b.rows.items) b.known.entries b.histograms
