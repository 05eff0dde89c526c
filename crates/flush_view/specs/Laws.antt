-- What holds of all views and outputs. This project's own.
use Rattle.std.specs.Prelude.{◌≡◌, ◌<◌, ℕ, ◌||◌, Bool, true, Option, Some, List, length, map, slice_get}
use Rattle.std.specs.List.{list_all, flat_map, AllByRecursion}
use Rattle.stat_defs.specs.declared.bins.Bound.{Bound}
use Rattle.stat_defs.specs.declared.configs.Config.{Config}
use Rattle.stat_defs.specs.declared.configs.ScopeSpec.{ScopeSpec}
use Rattle.stat_defs.specs.declared.events.Event.{Event}
use Rattle.stat_defs.specs.declared.events.Key.{Key}
use Rattle.stat_defs.specs.declared.history.Call.TheVariants as call
use Rattle.stat_defs.specs.declared.history.Entry.{Entry}
use Rattle.stat_defs.specs.declared.history.Reply.TheVariants as reply
use Rattle.stat_defs.specs.declared.ids.Kind.TheVariants.{Counter, Gauge}
use Rattle.stat_defs.specs.declared.metrics.Metric.{Metric}
use Rattle.stat_defs.specs.declared.reports.FlushRecord.{FlushRecord}
use Rattle.stat_defs.specs.declared.reports.Part.{Part}
use Rattle.stat_defs.specs.declared.reports.Report.{Report}
use Rattle.stat_defs.specs.Names.{tokens}
use Rattle.loglinear_bins.specs.Counts.{AreBinsOf, AreLawful, IsBinList}
use Rattle.merge_round.specs.Halves.{values_on}
use Rattle.book_state.specs.Log.{replay, Legal}
use Rattle.book_state.specs.State.{NameRules, Row, State, is_gone}
use Rattle.book_state.specs.Step.{effect}
use Rattle.ledger.specs.Work.{Work, Recording, recordings, units_of}
use Rattle.ledger.specs.Flushes.{Fits, ids_not_gone, id_of_reading}
use Rattle.ledger.specs.Ledger.{RunPlan, HasHistory, Account, ReplayLedger, Direct}
use Rattle.ledger.specs.OneReport.{without_ends, NoneFailed}
use Rattle.flush_view.specs.ByName.{SortsByName}
use Rattle.flush_view.specs.Views.{ViewRules, NumberedMetric, row_name, ends_in, state_before, last_state}
use Rattle.flush_view.specs.Views.{metrics_shown, counter_row, histogram_row, parts_on, merged_parts, view, views}
use Rattle.flush_view.specs.Symbols.{is_live_life}
use Rattle.flush_view.specs.Output.{ViewText, output}

-- the views of all flushes are those of each flush
abbrev pub ViewOfEach : Type 0
ViewOfEach = (rules : ViewRules) (log : List Entry) (flushes : List FlushRecord) (k : ℕ)
    → slice_get (views rules log flushes) k ≡ view rules log flushes k

-- the ends of the files are in no output
abbrev pub NoEndShown : Type 0
NoEndShown = (text : ViewText) (rules : ViewRules) (symbols : Bool) (one other : Report)
    → without_ends one ≡ without_ends other → output text rules symbols one ≡ output text rules symbols other

pub record OneOutput : Type 0 where
  -- a replay of these events has one output
  pub of_events : (text : ViewText) (rules : ViewRules) (symbols : Bool)
      (contents others : List (Option (List ℕ))) (events : List (List Event)) (plan : RunPlan)
      (one other : Report)
      → ReplayLedger contents events plan one → ReplayLedger others events plan other
      → output text rules symbols one ≡ output text rules symbols other
  -- a replay of these contents has one output, where no read and no opening failed
  pub of_contents : (text : ViewText) (rules : ViewRules) (symbols : Bool) (config : Config)
      (contents : List (List ℕ)) (one other : Report)
      → Direct config (map Some contents) one → NoneFailed one
      → Direct config (map Some contents) other → NoneFailed other
      → output text rules symbols one ≡ output text rules symbols other

-- a histogram's interval has the bins of all values that the flush took of it
abbrev pub IntervalOfValues : Type 0
IntervalOfValues = (rules : NameRules) (log : List Entry) (last : Bool) (segs : List (List Recording))
    (flush : FlushRecord) (id : ℕ) → Fits rules log last segs flush
    → AreBinsOf (merged_parts (parts_on id flush)) (flat_map (values_on id) segs)

-- all parts of a histogram together have the bins of all values that the workers recorded in it
abbrev pub CumulativeOfAll : Type 0
CumulativeOfAll = (plan : RunPlan) (workers : List Work) (report : Report) (id : ℕ)
    → Account plan workers report
    → AreBinsOf (merged_parts (flat_map (parts_on id) report.flushes))
    (flat_map (λ work. values_on id (recordings work)) workers)

-- each worker has one end in the log, so the views replay it with the workers that it has
abbrev pub EndsOfWorkers : Type 0
EndsOfWorkers = (plan : RunPlan) (workers : List Work) (report : Report) → HasHistory plan workers report
    → ends_in report.log ≡ length workers

-- a flush stands in the log, and has a reading of each gauge that was not gone before its sweep
pub record IsInLog (rules : NameRules) (log : List Entry) (flush : FlushRecord) : Type 0 where
  pub within : flush.at < length log
  pub gauges : map id_of_reading flush.gauges ≡ ids_not_gone Gauge (state_before rules log flush)

-- the log of a ledger is legal with as many workers as it has ends, and the flushes stand in it
pub record FlushesInLog : Type 0 where
  pub legal : (plan : RunPlan) (workers : List Work) (report : Report) → HasHistory plan workers report
      → Legal plan.rules plan.scopes (ends_in report.log) report.log
  pub flushes : (plan : RunPlan) (workers : List Work) (report : Report) → HasHistory plan workers report
      → Account plan workers report → AllByRecursion (IsInLog plan.rules report.log) report.flushes

-- with all flushes, the total of each counter that is shown is the units that all workers added to it
abbrev pub TotalsOfUnits : Type 0
TotalsOfUnits = (plan : RunPlan) (workers : List Work) (report : Report) (flush : FlushRecord)
    (passes : ℕ → Bool)
    → HasHistory plan workers report → Account plan workers report
    → AllByRecursion (λ numbered.
    (counter_row flush report.flushes numbered).total ≡ units_of numbered.0 workers)
    (metrics_shown Counter passes (last_state plan.rules report.log))

-- and the cumulative bins of each histogram that is shown are those of all values that the workers recorded in it
abbrev pub LastBinsOfAll : Type 0
LastBinsOfAll = (plan : RunPlan) (workers : List Work) (report : Report) (flush : FlushRecord)
    (bounds : List ℕ → List Bound) (numbered : NumberedMetric) → Account plan workers report
    → AreBinsOf (histogram_row bounds flush report.flushes numbered).cumulative
    (flat_map (λ work. values_on numbered.0 (recordings work)) workers)

-- a sum of lawful parts is lawful, rises and has no empty bin, also where a part does not rise or has some
abbrev pub SumsRise : Type 0
SumsRise = (parts : List Part) → AllByRecursion (λ part. AreLawful part.bins) parts
    → IsBinList (merged_parts parts)

-- rows and symbols stand in their order, and in no other
pub record OneOrder : Type 0 where
  pub rows : SortsByName NumberedMetric row_name
  pub symbols : SortsByName Metric (λ metric. metric.name)

-- an entry of the log made the metric of this number, with its symbol numbers, one for each token of its name
pub record IsMadeIn (log : List Entry) (id : ℕ) (metric : Metric) : Type 0 where
  pub at : ℕ
  pub seat : ℕ
  pub key : Key
  pub entry : slice_get log at ≡ Some (record {
    seat = seat;
    call = call.Find key;
    reply = reply.Made (record { 0 = id }) metric.numbers;
  })
  pub each : length metric.numbers ≡ length (tokens metric.name)

-- so was each metric of a legal log
abbrev pub NumbersMade : Type 0
NumbersMade = (rules : NameRules) (scopes : List ScopeSpec) (workers : ℕ) (log : List Entry) (id : ℕ)
    (row : Row)
    → Legal rules scopes workers log → slice_get (replay rules workers log).metrics id ≡ Some row
    → IsMadeIn log id row.metric

-- after a sweep behind the ends of all workers no metric is retired
abbrev pub NoneRetired : Type 0
NoneRetired = (rules : NameRules) (n : ℕ) (s : State) → list_all (λ seat. seat.ended) s.seats ≡ true
    → list_all (λ row. is_live_life row.metric.life || is_gone row.metric.life)
    (effect rules 0 call.Sweep (reply.Swept n) s).metrics ≡ true
