-- What is asked of a report whose flushes are shown, and what callers see of views that are given one after another.
-- This project's own.
use Rattle.std.specs.Prelude.{◌≡◌, ◌≤◌, ◌<◌, ◌^◌, ℕ, suc, Bool, true, nat_lt, if◌then◌else◌, Option, List, length, map}
use Rattle.std.specs.Prelude.{sum_by}
use Rattle.std.specs.List.{flat_map, All, AllByRecursion}
use Rattle.std.specs.List.Sorted.{IsNonDecreasing}
use Rattle.stat_defs.specs.declared.bins.BinCount.{BinCount}
use Rattle.stat_defs.specs.declared.configs.Config.{Config}
use Rattle.stat_defs.specs.declared.reports.FlushRecord.{FlushRecord}
use Rattle.stat_defs.specs.declared.reports.Report.{Report}
use Rattle.stat_defs.specs.declared.reports.Reported.{Reported}
use Rattle.stat_defs.specs.declared.views.FlushView.{FlushView}
use Rattle.stat_defs.specs.declared.views.HistRow.{HistRow}
use Rattle.loglinear_bins.specs.declared.place.TheConstants.{MAX_COUNT}
use Rattle.loglinear_bins.specs.Counts.{AreLawful, IsBinList, total}
use Rattle.book_state.specs.declared.limits.TheConstants.{MAX_WORKERS}
use Rattle.book_state.specs.Log.{Legal}
use Rattle.book_state.specs.Stored.{IsLawfulCall}
use Rattle.stat_defs.specs.Configs.{IsConfig}
use Rattle.ledger.specs.Flushes.{flushed}
use Rattle.ledger.specs.Ledger.{RunLedger, ReplayLedger, HasNames, plan_of}
use Rattle.stat_defs.specs.declared.events.Event.{Event}
use Rattle.flush_view.specs.Views.{view_rules, ends_in, names_shown, parts_on, view, IsView}

-- how many values of a histogram these flushes took
abbrev pub values_taken : ℕ → List FlushRecord → ℕ
values_taken id flushes = sum_by (λ part. total part.bins) (flat_map (parts_on id) flushes)

-- the bins of all parts of a flush are lawful
abbrev pub HasLawfulParts : FlushRecord → Type 0
HasLawfulParts flush = AllByRecursion (λ part. AreLawful part.bins) flush.parts

-- A report that can be shown. The log is legal for the configuration, with as many workers as have an end in it, and
-- the texts of its calls are lawful. The flushes stand in the order of their sweeps, and their parts have lawful bins.
-- What they took together fits a counter and a histogram.
pub record IsShowable (config : Config) (report : Report) : Type 0 where
  pub legal : Legal (view_rules config).names config.scopes (ends_in report.log) report.log
  pub workers : ends_in report.log ≤ MAX_WORKERS
  pub calls : AllByRecursion (λ entry. IsLawfulCall entry.call) report.log
  pub rising : IsNonDecreasing (map (λ flush. flush.at) report.flushes)
  pub units : (id : ℕ) → flushed id report.flushes < 2 ^ 63
  pub lawful : AllByRecursion HasLawfulParts report.flushes
  pub values : (id : ℕ) → values_taken id report.flushes ≤ MAX_COUNT

-- the ledger of a run or a replay can be shown, where there are no more files than workers may be
pub record LedgersShow : Type 0 where
  pub run : (config : Config) (contents : List (Option (List ℕ))) (events : List (List Event)) (report : Report)
      → IsConfig config → length contents ≤ MAX_WORKERS
      → RunLedger contents events (plan_of config) report → IsShowable config report
  pub replay : (config : Config) (contents : List (Option (List ℕ))) (events : List (List Event)) (report : Report)
      → IsConfig config → length contents ≤ MAX_WORKERS
      → ReplayLedger contents events (plan_of config) report → IsShowable config report

-- The names that came with the report of a run or a replay are those that its views are made of. A run has a worker for
-- each file, a replay has one.
pub record NamesOfLedgers : Type 0 where
  pub run : (config : Config) (contents : List (Option (List ℕ))) (events : List (List Event)) (made : Reported)
      → RunLedger contents events (plan_of config) made.report → HasNames (plan_of config).rules (length contents) made
      → made.names ≡ names_shown (view_rules config).names made.report.log
  pub replay : (config : Config) (contents : List (Option (List ℕ))) (events : List (List Event)) (made : Reported)
      → ReplayLedger contents events (plan_of config) made.report → HasNames (plan_of config).rules 1 made
      → made.names ≡ names_shown (view_rules config).names made.report.log

-- rising bins, none of them empty, of no more values than are counted
pub record AreBinsShown (bins : List BinCount) : Type 0 where
  pub list : IsBinList bins
  pub limit : total bins ≤ MAX_COUNT

-- the values since the flush before, and all values so far
pub record HasBinsShown (row : HistRow) : Type 0 where
  pub interval : AreBinsShown row.interval
  pub cumulative : AreBinsShown row.cumulative

-- so are the bins of each row of histograms in each view of a report that can be shown
abbrev pub ViewsHaveBins : Type 0
ViewsHaveBins = (config : Config) (report : Report) (k : ℕ) (shown : FlushView)
    → IsShowable config report → IsView config report k shown → All HasBinsShown shown.histograms

-- the configuration and the report, how many views were given, and whether no call was cut short by want of memory
pub record ViewHistory : Type 0 where
  pub config : Config
  pub report : Report
  pub given : ℕ
  pub whole : Bool

-- no view was given yet
abbrev pub first_views : Config → Report → ViewHistory
first_views config report = record { config = config; report = report; given = 0; whole = true }

-- the view of the flush whose turn it is; there is none behind the last
abbrev pub view_in_turn : ViewHistory → Option FlushView
view_in_turn views = view (view_rules views.config) views.report.log views.report.flushes views.given

-- one view more was given, where there was one
abbrev pub after_view : ViewHistory → ViewHistory
after_view views =
    record views { given = if nat_lt views.given (length views.report.flushes) then suc views.given else views.given }
