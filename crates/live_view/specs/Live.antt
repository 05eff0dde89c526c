-- What one flush shows while its store goes on (Envoy's statistics overview: counters, gauges, histograms and text
-- readouts at each flush, of a server that runs on; the rows are this project's own).
use Rattle.std.specs.Prelude.{◌≡◌, ◌≤◌, ◌<◌, ◌^◌, ℕ, Bool, true, List, [], ◌++◌, length, map, take}
use Rattle.std.specs.List.{AllByRecursion}
use Rattle.std.specs.List.Sorted.{IsNonDecreasing}
use Rattle.stat_defs.specs.declared.configs.Config.{Config}
use Rattle.stat_defs.specs.declared.history.Entry.{Entry}
use Rattle.stat_defs.specs.declared.ids.Kind.TheVariants.{Counter, Gauge, Histogram, Text}
use Rattle.stat_defs.specs.declared.reports.FlushRecord.{FlushRecord}
use Rattle.stat_defs.specs.declared.reports.Report.{Report}
use Rattle.stat_defs.specs.declared.views.FlushView.{FlushView}
use Rattle.loglinear_bins.specs.declared.place.TheConstants.{MAX_COUNT}
use Rattle.book_state.specs.declared.limits.TheConstants.{MAX_WORKERS}
use Rattle.book_state.specs.Log.{Legal, replay}
use Rattle.book_state.specs.Stored.{IsLawfulCall}
use Rattle.ledger.specs.Flushes.{flushed}
use Rattle.flush_view.specs.Showing.{IsShowable, HasLawfulParts, values_taken}
use Rattle.flush_view.specs.Views.{ViewRules, view_rules, ends_in, view_of, metrics_shown, has_not_gone}
use Rattle.flush_view.specs.Views.{has_counter_row, has_histogram_row, counter_row, gauge_row, text_row, histogram_row}

-- The view of a flush, where this is the log so far of a book with so many workers, and these are the flushes so far,
-- of which this flush is the last. Names, kinds and tags are those of the log so far.
abbrev pub view_so_far : ViewRules → ℕ → List Entry → FlushRecord → List FlushRecord → FlushView
view_so_far rules workers log flush so_far =
    let before = replay rules.names workers (take flush.at log) in
    let now = replay rules.names workers log in
    record {
      counters = map (counter_row flush so_far) (metrics_shown Counter (has_counter_row before flush) now);
      gauges = map (gauge_row flush) (metrics_shown Gauge (has_not_gone before) now);
      texts = map (text_row before) (metrics_shown Text (has_not_gone before) now);
      histograms = map (histogram_row rules.bounds flush so_far)
          (metrics_shown Histogram (has_histogram_row before flush) now);
    }

-- A log so far and flushes so far that can be shown. The log is legal for the configuration, with this number of
-- workers, and the texts of its calls are lawful. The flushes stand in the order of their sweeps, and their parts have
-- lawful bins. What they took together fits a counter and a histogram.
pub record CanBeShown (config : Config) (workers : ℕ) (log : List Entry) (flushes : List FlushRecord) : Type 0 where
  pub legal : Legal (view_rules config).names config.scopes workers log
  pub workers_few : workers ≤ MAX_WORKERS
  pub calls : AllByRecursion (λ entry. IsLawfulCall entry.call) log
  pub rising : IsNonDecreasing (map (λ flush. flush.at) flushes)
  pub units : (id : ℕ) → flushed id flushes < 2 ^ 63
  pub lawful : AllByRecursion HasLawfulParts flushes
  pub values : (id : ℕ) → values_taken id flushes ≤ MAX_COUNT

-- the log goes on from an earlier one, and the flush's sweep stands in what is new
pub record GoesOn (earlier log : List Entry) (flush : FlushRecord) : Type 0 where
  pub more : List Entry
  pub longer : log ≡ earlier ++ more
  pub behind : length earlier ≤ flush.at
  pub within : flush.at < length log

-- what callers see of views that are given while a store goes on: the configuration; how many workers its book has; the
-- log and the flushes as they were when the last view was given; and whether no view was cut short by want of memory
pub record LiveHistory : Type 0 where
  pub config : Config
  pub workers : ℕ
  pub log : List Entry
  pub flushes : List FlushRecord
  pub whole : Bool

-- no view was given yet
abbrev pub no_views : Config → ℕ → LiveHistory
no_views config workers = record { config = config; workers = workers; log = []; flushes = []; whole = true }

-- the case of a whole report, in whose log each worker has an end
pub record ReportShows : Type 0 where
  pub view : (rules : ViewRules) (log : List Entry) (flush : FlushRecord) (so_far : List FlushRecord)
      → view_so_far rules (ends_in log) log flush so_far ≡ view_of rules log flush so_far
  pub shown : (config : Config) (report : Report) → IsShowable config report
      → CanBeShown config (ends_in report.log) report.log report.flushes
