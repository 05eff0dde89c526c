-- How what a report says grows by one event, by log entries and by one flush at the end. This project's own.
use Rattle.std.specs.Prelude.{◌≡◌, ◌≤◌, ◌<◌, ℕ, suc, ◌+◌, if◌then◌else◌, Bool, true, false, Option, None, Some, List}
use Rattle.std.specs.Prelude.{[], ◌∷◌, ◌++◌, length, map, filter, take, slice_get, option_to_list}
use Rattle.std.specs.Option.{option_map_or}
use Rattle.std.specs.List.{zip, flat_map, AllByRecursion}
use Rattle.stat_defs.specs.declared.configs.ScopeSpec.{ScopeSpec}
use Rattle.stat_defs.specs.declared.events.Event.{Event}
use Rattle.stat_defs.specs.declared.history.Verdict.{Verdict}
use Rattle.stat_defs.specs.declared.history.Entry.{Entry}
use Rattle.stat_defs.specs.declared.history.Call.TheVariants as call
use Rattle.stat_defs.specs.declared.ids.Kind.{Kind}
use Rattle.stat_defs.specs.declared.ids.Kind.TheVariants.{Counter, Gauge}
use Rattle.stat_defs.specs.declared.ids.MetricId.{MetricId}
use Rattle.stat_defs.specs.declared.metrics.Metric.{Metric}
use Rattle.stat_defs.specs.declared.reports.Delta.{Delta}
use Rattle.stat_defs.specs.declared.reports.FlushRecord.{FlushRecord}
use Rattle.stat_defs.specs.declared.reports.Report.{Report}
use Rattle.stat_defs.specs.Keys.{same_kind}
use Rattle.merge_round.specs.Rounds.{ArePartsOf}
use Rattle.book_state.specs.State.{NameRules, State, metrics_of, ids_from, names_in}
use Rattle.book_state.specs.Step.{change_at}
use Rattle.book_state.specs.Log.{openings, replay}
use Rattle.book_state.specs.Follows.{FollowsSoFar}
use Rattle.ledger.specs.Lists.{EachNumbered}
use Rattle.ledger.specs.Work.{Work, Recording, events_in, verdicts_in, work_of, together, units_in, units_of}
use Rattle.ledger.specs.Work.{recording_in, recordings}
use Rattle.ledger.specs.Gauges.{GaugeMove, move_in, movers, all_moves, word_after, word_of_moves, gauge_word, GaugeFits}
use Rattle.ledger.specs.Segments.{taken_from, segments, left_over, TakesLess, taken_now, segment_of, bins_by_worker}
use Rattle.ledger.specs.Flushes.{ids_made, ids_not_gone, counters_shown, id_of_delta, id_of_reading, Fits, FitSoFar}
use Rattle.ledger.specs.Flushes.{FitAll, flushed, flushed_in}
use Rattle.ledger.specs.Ledger.{RunPlan, Account}

-- the work of files that each have as many verdicts as events
pub record WorkGrows : Type 0 where
  pub event : (events : List Event) (verdicts : List Verdict) (e : Event) (v : Verdict) → length verdicts
      ≡ length events
      → work_of (events ++ e ∷ [], verdicts ++ v ∷ []) ≡ work_of (events, verdicts) ++ (e, v) ∷ []
  pub events : (events : List Event) (verdicts : List Verdict) → length verdicts ≡ length events
      → events_in (work_of (events, verdicts)) ≡ events
  pub verdicts : (events : List Event) (verdicts : List Verdict) → length verdicts ≡ length events
      → verdicts_in (work_of (events, verdicts)) ≡ verdicts
  -- one more file of the one worker of a replay
  pub file : (events : List (List Event)) (verdicts : List (List Verdict)) (es : List Event) (vs : List Verdict)
      → length verdicts ≡ length events
      → together (events ++ es ∷ []) (verdicts ++ vs ∷ [])
      ≡ (flat_map work_of (zip events verdicts) ++ work_of (es, vs)) ∷ []

-- one more event of the worker at this place
abbrev pub with_event : ℕ → Event × Verdict → List Work → List Work
with_event at told workers = change_at (λ work. work ++ told ∷ []) at workers

pub record UnitsGrow : Type 0 where
  -- an event adds its units, and a flush those that it shows
  pub event : (id at : ℕ) (told : Event × Verdict) (workers : List Work) → at < length workers
      → units_of id (with_event at told workers) ≡ units_of id workers + units_in id told
  pub flush : (id : ℕ) (flushes : List FlushRecord) (flush : FlushRecord)
      → flushed id (flushes ++ flush ∷ []) ≡ flushed id flushes + flushed_in id flush

-- the word after a move, if there is one
abbrev pub word_after_any : ℕ → Option GaugeMove → ℕ
word_after_any word None = word
word_after_any word (Some m) = word_after word m

pub record WordsGrow : Type 0 where
  pub event : (id : ℕ) (work : Work) (told : Event × Verdict)
      → gauge_word id (work ++ told ∷ []) ≡ word_after_any (gauge_word id work) (move_in id told)
  -- where one worker at most moves a gauge, the fold of its moves fits by all three cases
  pub alone : (id : ℕ) (workers : List Work) → length (movers id workers) ≤ 1
      → GaugeFits id (word_of_moves (all_moves (movers id workers))) workers
  pub one_worker : (id : ℕ) (work : Work) → GaugeFits id (gauge_word id work) (work ∷ [])

pub record SegmentsGrow : Type 0 where
  -- an event leaves the segments, and what it records is left over
  pub event : (w : ℕ) (work : Work) (told : Event × Verdict) (flushes : List FlushRecord) → TakesLess w work flushes
      → segments w (work ++ told ∷ []) flushes ≡ segments w work flushes
  pub later : (w : ℕ) (work : Work) (told : Event × Verdict) (flushes : List FlushRecord) → TakesLess w work flushes
      → left_over w (work ++ told ∷ []) flushes ≡ left_over w work flushes ++ option_to_list (recording_in told)
  pub less : (w : ℕ) (work : Work) (told : Event × Verdict) (flushes : List FlushRecord) → TakesLess w work flushes
      → TakesLess w (work ++ told ∷ []) flushes
  -- a flush takes the first of what was left over
  pub flush : (w : ℕ) (work : Work) (flushes : List FlushRecord) (flush : FlushRecord)
      → segments w work (flushes ++ flush ∷ [])
      ≡ segments w work flushes ++ take (taken_from w flush) (left_over w work flushes) ∷ []
  -- the segments and what is left over are all that the worker recorded
  pub whole : (w : ℕ) (work : Work) (flushes : List FlushRecord)
      → flat_map (λ segment. segment) (segments w work flushes) ++ left_over w work flushes ≡ recordings work

pub record FitsGrow : Type 0 where
  -- flushes that fit still do with more log entries, after one more event, and before one more flush that fits
  pub entries : (rules : NameRules) (log more : List Entry) (workers : List Work) (flushes : List FlushRecord)
      → FitSoFar rules log workers flushes → FitSoFar rules (log ++ more) workers flushes
  pub event : (rules : NameRules) (log : List Entry) (at : ℕ) (told : Event × Verdict) (workers : List Work)
      (flushes : List FlushRecord)
      → EachNumbered (λ w work. TakesLess w work flushes) 1 workers
      → FitSoFar rules log workers flushes → FitSoFar rules log (with_event at told workers) flushes
  pub flush : (rules : NameRules) (log : List Entry) (workers : List Work) (flushes : List FlushRecord)
      (flush : FlushRecord)
      → FitSoFar rules log workers flushes → Fits rules log false (taken_now 1 workers flushes flush) flush
      → FitSoFar rules log workers (flushes ++ flush ∷ [])
  -- with the last flush they are those of a report
  pub last : (rules : NameRules) (log : List Entry) (workers : List Work) (flushes : List FlushRecord)
      (flush : FlushRecord)
      → FitSoFar rules log workers flushes → Fits rules log true (taken_now 1 workers flushes flush) flush
      → FitAll rules log workers (flushes ++ flush ∷ [])

pub record FlushAtSweep : Type 0 where
  -- a flush fits behind the sweep that was logged last, where it shows what was there before
  pub fits : (rules : NameRules) (log : List Entry) (sweep : Entry) (last : Bool) (segs : List (List Recording))
      (flush : FlushRecord)
      → sweep.call ≡ call.Sweep → flush.at ≡ length log
      → map id_of_delta flush.deltas
      ≡ counters_shown last (replay rules (length segs) log) (replay rules (length segs) (log ++ sweep ∷ []))
      → map id_of_reading flush.gauges ≡ ids_not_gone Gauge (replay rules (length segs) log)
      → ArePartsOf (bins_by_worker segs) flush.parts
      → Fits rules (log ++ sweep ∷ []) last segs flush
  -- a sweep makes no metric
  pub made : (kind : Kind) (rules : NameRules) (workers : ℕ) (log : List Entry) (sweep : Entry)
      → sweep.call ≡ call.Sweep
      → ids_made kind (replay rules workers (log ++ sweep ∷ [])) ≡ ids_made kind (replay rules workers log)

pub record PartsTake : Type 0 where
  -- the parts of a segment have as many values as it has
  pub counts : (segs : List (List Recording)) (flush : FlushRecord) (at : ℕ)
      → ArePartsOf (bins_by_worker segs) flush.parts → taken_from (suc at) flush ≡ length (segment_of segs (suc at))
  -- a flush that has the bins of all that was left over of one worker takes all of it
  pub all : (work : Work) (flushes : List FlushRecord) (flush : FlushRecord)
      → ArePartsOf (bins_by_worker (left_over 1 work flushes ∷ [])) flush.parts
      → taken_now 1 (work ∷ []) flushes flush ≡ left_over 1 work flushes ∷ []
  pub nothing_left : (work : Work) (flushes : List FlushRecord) (flush : FlushRecord)
      → ArePartsOf (bins_by_worker (left_over 1 work flushes ∷ [])) flush.parts
      → left_over 1 work (flushes ++ flush ∷ []) ≡ []
  pub less : (work : Work) (flushes : List FlushRecord) (flush : FlushRecord) → TakesLess 1 work flushes
      → ArePartsOf (bins_by_worker (left_over 1 work flushes ∷ [])) flush.parts
      → TakesLess 1 work (flushes ++ flush ∷ [])

-- the flushes of one worker account for all that it did, where each fits, the units are those of its events, nothing is
-- left over, and each word of the last flush is the fold of its moves
abbrev pub OneWorkerAccounts : Type 0
OneWorkerAccounts = (plan : RunPlan) (work : Work) (flushes : List FlushRecord) (last : FlushRecord) (report : Report)
    → report.flushes ≡ flushes ++ last ∷ []
    → FitSoFar plan.rules report.log (work ∷ []) flushes
    → Fits plan.rules report.log true (taken_now 1 (work ∷ []) flushes last) last
    → AllByRecursion (λ id. flushed id.0 report.flushes ≡ units_of id.0 (work ∷ []))
    (ids_made Counter (replay plan.rules 1 report.log))
    → left_over 1 work report.flushes ≡ []
    → AllByRecursion (λ reading. reading.word ≡ gauge_word reading.id.0 work) last.gauges
    → Account plan (work ∷ []) report

-- the metrics of these numbers of which this holds too
abbrev pub those_of : (Metric → Bool) → List Metric → List MetricId → List MetricId
those_of holds metrics ids = filter (λ id. option_map_or holds (slice_get metrics id.0) false) ids

abbrev pub delta_by : (ℕ → ℕ) → MetricId → Delta
delta_by n id = record { id = id; n = n id.0 }

pub record NamesShown : Type 0 where
  -- what is not gone of a kind are those of the kind among all that is not gone
  pub kinds : (kind : Kind) (s : State)
      → those_of (λ metric. same_kind metric.kind kind) (metrics_of s) (names_in s) ≡ ids_not_gone kind s
  -- a delta for each of some metrics adds the units of a metric among them, and none of any other
  pub deltas : (holds : Metric → Bool) (metrics : List Metric) (n : ℕ → ℕ) (flush : FlushRecord) (id : ℕ)
      → flush.deltas ≡ map (delta_by n) (ids_from holds 0 metrics)
      → flushed_in id flush ≡ (if option_map_or holds (slice_get metrics id) false then n id else 0)

-- the openings of the configuration are no entries of a worker, so it follows no event so far
abbrev pub FollowsFromOpenings : Type 0
FollowsFromOpenings = (rules : NameRules) (workers seat : ℕ) (scopes : List ScopeSpec) → 1 ≤ seat
    → FollowsSoFar rules workers seat [] [] (openings 0 scopes)
