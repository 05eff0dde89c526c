-- What one flush of a report shows. This project's own.
use Rattle.std.specs.Prelude.{◌≡◌, ℕ, suc, ◌==◌, ◌&&◌, if◌then◌else◌, not, Bool, false, Some, option_map, List, length}
use Rattle.std.specs.Prelude.{map, take, slice_get, sum_by}
use Rattle.stat_defs.specs.declared.ids.Kind.{Kind}
use Rattle.stat_defs.specs.declared.ids.Kind.TheVariants.{Counter, Gauge}
use Rattle.stat_defs.specs.declared.ids.MetricId.{MetricId}
use Rattle.stat_defs.specs.declared.history.Call.TheVariants as call
use Rattle.stat_defs.specs.declared.history.Entry.{Entry}
use Rattle.stat_defs.specs.declared.reports.Delta.{Delta}
use Rattle.stat_defs.specs.declared.reports.Reading.{Reading}
use Rattle.stat_defs.specs.declared.reports.FlushRecord.{FlushRecord}
use Rattle.stat_defs.specs.Keys.{same_kind}
use Rattle.merge_round.specs.Rounds.{ArePartsOf}
use Rattle.book_state.specs.State.{NameRules, State, is_gone, metrics_of, ids_from}
use Rattle.book_state.specs.Log.{replay}
use Rattle.ledger.specs.Lists.{EachNumbered}
use Rattle.ledger.specs.Work.{Work, Recording}
use Rattle.ledger.specs.Segments.{segments_at, bins_by_worker}

-- the metrics of a kind that were ever made, and those of them that are not gone, in the order of their numbers
abbrev pub ids_made : Kind → State → List MetricId
ids_made kind s = ids_from (λ metric. same_kind metric.kind kind) 0 (metrics_of s)

abbrev pub ids_not_gone : Kind → State → List MetricId
ids_not_gone kind s = ids_from (λ metric. same_kind metric.kind kind && not (is_gone metric.life)) 0 (metrics_of s)

-- the counters that a flush shows: those that were not gone before its sweep, and in the last flush all that were
-- ever made
abbrev pub counters_shown : Bool → State → State → List MetricId
counters_shown last before whole = if last then ids_made Counter whole else ids_not_gone Counter before

abbrev pub id_of_delta : Delta → MetricId
id_of_delta delta = delta.id

abbrev pub id_of_reading : Reading → MetricId
id_of_reading reading = reading.id

-- A flush whose sweep stands in this log, and which took these segments, one of each worker. `last` tells whether it
-- is the last.
pub record Fits (rules : NameRules) (log : List Entry) (last : Bool) (segs : List (List Recording))
    (flush : FlushRecord)
    : Type 0 where
  -- the entry at its place is a sweep
  pub sweep : option_map (λ e. e.call) (slice_get log flush.at) ≡ Some call.Sweep
  -- a delta for each counter that it shows
  pub deltas : map id_of_delta flush.deltas
      ≡ counters_shown last (replay rules (length segs) (take flush.at log)) (replay rules (length segs) log)
  -- a reading for each gauge that was not gone before the sweep
  pub gauges : map id_of_reading flush.gauges
      ≡ ids_not_gone Gauge (replay rules (length segs) (take flush.at log))
  -- a part exactly where a worker's segment has a value on a histogram: the bins of these values
  pub parts : ArePartsOf (bins_by_worker segs) flush.parts

-- each of these flushes fits, where none is the last
abbrev pub FitSoFar : NameRules → List Entry → List Work → List FlushRecord → Type 0
FitSoFar rules log workers flushes =
    EachNumbered (λ k flush. Fits rules log false (segments_at k 1 workers flushes) flush) 0 flushes

-- each of these flushes fits, and the last one as the last
abbrev pub FitAll : NameRules → List Entry → List Work → List FlushRecord → Type 0
FitAll rules log workers flushes =
    EachNumbered (λ k flush. Fits rules log (suc k == length flushes) (segments_at k 1 workers flushes) flush) 0 flushes

abbrev pub delta_on : ℕ → Delta → ℕ
delta_on id delta = if delta.id.0 == id then delta.n else 0

-- the units of a counter in a flush, and in all of them
abbrev pub flushed_in : ℕ → FlushRecord → ℕ
flushed_in id flush = sum_by (delta_on id) flush.deltas

abbrev pub flushed : ℕ → List FlushRecord → ℕ
flushed id flushes = sum_by (flushed_in id) flushes
