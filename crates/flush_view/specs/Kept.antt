-- What is kept between the views of a report. This project's own.
use Rattle.std.specs.Prelude.{◌≡◌, ◌<◌, ℕ, None, List, length, map, take, replicate, slice_index}
use Rattle.std.specs.List.{flat_map}
use Rattle.stat_defs.specs.declared.configs.Config.{Config}
use Rattle.stat_defs.specs.declared.reports.FlushRecord.{FlushRecord}
use Rattle.stat_defs.specs.declared.reports.Report.{Report}
use Rattle.merge_round.specs.Slots.{Slots, bins_at}
use Rattle.book_state.specs.State.{State}
use Rattle.ledger.specs.Flushes.{flushed}
use Rattle.flush_view.specs.Before.{Before, before_of}
use Rattle.flush_view.specs.ByName.{by_name}
use Rattle.flush_view.specs.declared.progress.Progress.{Progress}
use Rattle.flush_view.specs.Rows.{Figures}
use Rattle.flush_view.specs.Sums.{with_deltas, with_readings, with_parts}
use Rattle.flush_view.specs.Views.{NumberedMetric, row_name, numbered_metrics, view_rules, state_before, last_state}
use Rattle.flush_view.specs.Views.{parts_on, merged_parts}

-- the book after the whole log of a report
abbrev pub last_book : Config → Report → State
last_book config report = last_state (view_rules config).names report.log

-- how many metrics it has
abbrev pub metrics_made : Config → Report → ℕ
metrics_made config report = length (last_book config report).metrics

-- its metrics with their numbers, by full name
abbrev pub ordered_metrics : Config → Report → List NumberedMetric
ordered_metrics config report = by_name row_name (numbered_metrics (last_book config report))

-- what is known before the sweep of each flush
abbrev pub befores_of : Config → Report → List Before
befores_of config report =
    map (λ flush. before_of (state_before (view_rules config).names report.log flush)) report.flushes

-- no flush is followed yet, of so many metrics
pub record IsAtStart (count : ℕ) (progress : Progress) : Type 0 where
  pub totals : progress.totals.items ≡ replicate count 0
  pub cumulative : progress.cumulative.items ≡ replicate count None

-- the flush is followed: what it took is added
pub record Follows (flush : FlushRecord) (old new : Progress) : Type 0 where
  pub totals : new.totals.items ≡ with_deltas old.totals.items flush.deltas
  pub cumulative : new.cumulative.items ≡ with_parts old.cumulative.items flush.parts

-- the sums of so many metrics are those of these flushes
pub record HasSums (count : ℕ) (flushes : List FlushRecord) (progress : Progress) : Type 0 where
  pub sums : length progress.totals.items ≡ count
  pub slots : length progress.cumulative.items ≡ count
  pub totals : (id : ℕ) → id < count → slice_index progress.totals.items id ≡ flushed id flushes
  pub bins : (id : ℕ) → id < count
      → bins_at progress.cumulative.items id ≡ merged_parts (flat_map (parts_on id) flushes)

-- the first k flushes of a report were followed
abbrev pub HasFollowed : Config → Report → ℕ → Progress → Type 0
HasFollowed config report k progress = HasSums (metrics_made config report) (take k report.flushes) progress

-- what a flush took of so many metrics, beside these sums
abbrev pub kept_of : ℕ → FlushRecord → List ℕ → Slots → Figures
kept_of count flush totals cumulative = record {
  units = with_deltas (replicate count 0) flush.deltas;
  words = with_readings (replicate count 0) flush.gauges;
  intervals = with_parts (replicate count None) flush.parts;
  totals = totals;
  cumulative = cumulative;
}
