-- What the parties of a run, its log and its banks tell together, once every worker, the flusher and the reader have
-- returned. This project's own.
use Rattle.std.specs.Prelude.{◌≡◌, ◌≢◌, ◌<◌, ℕ, suc, ◌==◌, if◌then◌else◌, Bool, List, [], ◌∷◌, ◌++◌, length, map}
use Rattle.std.specs.List.{AllByRecursion}
use Rattle.std.specs.List.Sorted.{IsStrictlyIncreasing, IsNonDecreasing}
use Rattle.stat_defs.specs.declared.ids.Kind.{Kind}
use Rattle.stat_defs.specs.declared.ids.Kind.TheVariants.{Counter, Gauge}
use Rattle.stat_defs.specs.declared.ids.MetricId.{MetricId}
use Rattle.stat_defs.specs.declared.events.Event.{Event}
use Rattle.stat_defs.specs.declared.history.Call.TheVariants as call
use Rattle.stat_defs.specs.declared.history.Reply.TheVariants as reply
use Rattle.stat_defs.specs.declared.history.Entry.{Entry}
use Rattle.stat_defs.specs.declared.reports.Report.{Report}
use Rattle.stat_defs.specs.Keys.{same_kind}
use Rattle.seat_history.specs.History.{GoesOn, past, entries_by}
use Rattle.merge_round.specs.Rounds.{ArePartsOf}
use Rattle.book_state.specs.State.{NameRules, State, metrics_of, names_in}
use Rattle.book_state.specs.Log.{openings, replay, Legal}
use Rattle.book_state.specs.Follows.{Follows}
use Rattle.seat_parts.specs.Parts.{total}
use Rattle.metric_words.specs.declared.counter_view.CountPart.{CountPart}
use Rattle.metric_words.specs.declared.counter_view.CountStep.{CountStep}
use Rattle.metric_words.specs.declared.gauge_view.GaugePart.{GaugePart}
use Rattle.metric_words.specs.Counters.{seconds, latches, Rises}
use Rattle.metric_words.specs.CounterLaws.{IsCounterEnd}
use Rattle.metric_words.specs.Gauges.{IsGaugeWord}
use Rattle.metric_words.specs.GaugeLaws.{writes_by}
use Rattle.ledger.specs.Lists.{EachNumbered}
use Rattle.ledger.specs.Work.{events_in, verdicts_in, apart, units_by, recordings}
use Rattle.ledger.specs.Gauges.{moves_of}
use Rattle.ledger.specs.Segments.{bins_by_worker}
use Rattle.ledger.specs.Flushes.{ids_made, id_of_delta, id_of_reading, flushed}
use Rattle.ledger.specs.Ledger.{RunPlan}
use Rattle.ledger.specs.Laws.{those_of}
use Rattle.run_ledger.specs.Told.{WorkerTold, FlushTold, ReadTold, RunTold, all_flushes, moves_made, values_in, taken_by}
use Rattle.run_ledger.specs.Told.{halves_of, words_read, words_loaded}

-- the metrics of a kind on the book's list of those that are not gone
abbrev pub listed : Kind → State → List MetricId
listed kind s = those_of (λ metric. same_kind metric.kind kind) (metrics_of s) (names_in s)

-- What the calls of a worker left with it.
pub record DidItsWork (told : WorkerTold) : Type 0 where
  -- its accepted increments made the adds of its seat, and its accepted gauge events the steps of its seat, in order
  pub adds : (id : ℕ) → seconds id told.counts.steps ≡ units_by id told.work
  pub moves : (id : ℕ) → moves_made id told.gauges.steps ≡ moves_of id told.work
  -- what it recorded is in the halves that it turned, in order, and in its active half
  pub values : values_in (told.turned ++ told.active ∷ []) ≡ recordings told.work

-- Worker w, where the last sweep found this log.
pub record WorkerAccounts (found : List Entry) (w : ℕ) (told : WorkerTold) : Type 0 where
  pub number : told.seat.number ≡ w
  -- past the openings its entries are those that its calls made, in order
  pub made : entries_by told.seat.number (past told.seat.first found) ≡ told.seat.made
  -- the log that it left last ends with its End, and no further one of its entries follows
  pub before : List Entry
  pub ended : told.seat.known ≡ before ++ record { seat = w; call = call.End; reply = reply.Ended } ∷ []
  pub known : GoesOn (λ entry. entry.seat ≢ told.seat.number) told.seat.known found
  pub did : DidItsWork told

-- Worker w: in the log that it left last its entries are those of its events and then one End.
abbrev pub FollowsEvents : NameRules → ℕ → ℕ → WorkerTold → Type 0
FollowsEvents rules workers w told =
    Follows rules workers w (events_in told.work) (verdicts_in told.work) told.seat.known

-- A flush, where this is the whole log; `last` tells whether it is the last one.
pub record FlushAccounts (rules : NameRules) (workers : ℕ) (log : List Entry) (last : Bool) (told : FlushTold)
    : Type 0 where
  -- its sweep stands in the log at its place, and is the store's
  pub behind : List Entry
  pub whole : log ≡ told.found ++ told.sweep ∷ behind
  pub at : told.shown.at ≡ length told.found
  pub sweep : (told.sweep.call ≡ call.Sweep) × (told.sweep.seat ≡ 0)
  -- it latched each counter that was not gone before the sweep, or the last flush each that was ever made, and loaded
  -- each gauge that was not gone
  pub counters : map id_of_delta told.shown.deltas
      ≡ (if last then ids_made Counter (replay rules workers log) else listed Counter (replay rules workers told.found))
  pub gauges : map id_of_reading told.shown.gauges ≡ listed Gauge (replay rules workers told.found)
  -- its parts are the bins of the halves that it took of each worker
  pub each : length told.halves ≡ workers
  pub parts : ArePartsOf (bins_by_worker (taken_by told)) told.shown.parts

-- A reading, where this is the whole log.
pub record ReadAccounts (rules : NameRules) (workers : ℕ) (log : List Entry) (told : ReadTold) : Type 0 where
  -- it is of the log whose names the reader found published
  pub behind : List Entry
  pub whole : log ≡ told.found ++ behind
  pub at : told.shown.at ≡ length told.found
  -- it loaded each counter and each gauge that was not gone
  pub counters : map id_of_reading told.shown.counters ≡ listed Counter (replay rules workers told.found)
  pub gauges : map id_of_reading told.shown.gauges ≡ listed Gauge (replay rules workers told.found)

-- The report is what the parties tell, and they did as the plan asked.
pub record IsTold (plan : RunPlan) (events : List (List Event)) (told : RunTold) (report : Report) : Type 0 where
  pub works : map (λ worker. worker.work) told.workers ≡ apart events report.verdicts
  pub flushes : report.flushes ≡ map (λ flush. flush.shown) (all_flushes told)
  pub reads : report.reads ≡ map (λ read. read.shown) told.reads
  pub flush_number : length told.flushes ≡ plan.flushes
  pub read_number : length told.reads ≡ plan.reads

-- There is one legal log. The last sweep ends it, and past the openings the store's entries are the flushes' sweeps.
pub record IsLogOf (plan : RunPlan) (told : RunTold) (report : Report) : Type 0 where
  pub legal : Legal plan.rules plan.scopes (length told.workers) report.log
  pub last_sweep : report.log ≡ told.last.found ++ told.last.sweep ∷ []
  pub sweeps : entries_by 0 (past (openings 0 plan.scopes) report.log) ≡ map (λ flush. flush.sweep) (all_flushes told)
  pub flushes_rise : IsStrictlyIncreasing (map (λ flush. flush.at) report.flushes)
  pub reads_rise : IsNonDecreasing (map (λ read. read.at) report.reads)

-- the flusher's latches of a counter found all that these seats added to it
abbrev pub IsLatched : List CountPart → List CountStep → MetricId → Type 0
IsLatched seats steps id = latches id.0 steps ≡ total (λ p. seconds id.0 p.steps) seats

-- what the bank of the counters has of one at its end, and no load found less than an earlier one
pub record CounterAtEnd (told : RunTold) (id : ℕ) : Type 0 where
  pub value : ℕ
  pub pending : ℕ
  pub end : IsCounterEnd id (map (λ worker. worker.counts) told.workers) told.flusher told.reader value pending
  pub rises : Rises id told.reader value

-- The deltas of a counter are what the flusher's latches found, and its readings what the reader's loads found, in
-- order. Each counter was latched when all workers had returned.
pub record CountersAccount (plan : RunPlan) (told : RunTold) (report : Report) : Type 0 where
  pub latched : (id : ℕ) → latches id told.flusher ≡ flushed id report.flushes
  pub loaded : (id : ℕ) → words_loaded id told.reader ≡ words_read id told.reads
  pub counted : (id : ℕ) → id < length (replay plan.rules (length told.workers) report.log).metrics
      → CounterAtEnd told id
  pub all_latched : AllByRecursion (IsLatched (map (λ worker. worker.counts) told.workers) told.flusher)
      (ids_made Counter (replay plan.rules (length told.workers) report.log))

-- a gauge's word that the steps of these seats left, where no other seat of the bank wrote the gauge
pub record LeftBy (id : ℕ) (seats : List GaugePart) (word : ℕ) : Type 0 where
  pub before : List GaugePart
  pub behind : List GaugePart
  pub idle : (writes_by id before ≡ 0) × (writes_by id behind ≡ 0)
  pub left : IsGaugeWord id (before ++ (seats ++ behind)) word

-- A store whose parties did as this plan asks, decided these events, and gave this report. An event that was refused is
-- none of them; its find may stand in the log.
pub record StoreAccounts (plan : RunPlan) (events : List (List Event)) (told : RunTold) (report : Report)
    : Type 0 where
  pub told_is : IsTold plan events told report
  pub log_is : IsLogOf plan told report
  -- each worker, flush and reading accounts for what it did
  pub each_worker : EachNumbered (WorkerAccounts told.last.found) 1 told.workers
  pub each_flush : EachNumbered (λ k flush.
      FlushAccounts plan.rules (length told.workers) report.log (suc k == length (all_flushes told)) flush) 0 (all_flushes told)
  pub each_read : AllByRecursion (ReadAccounts plan.rules (length told.workers) report.log) told.reads
  -- of each worker, flushes took the halves that it turned, and the last one its active half too
  pub halves : EachNumbered (λ w worker.
      halves_of w (all_flushes told) ≡ worker.turned ++ worker.active ∷ []) 1 told.workers
  pub counters : CountersAccount plan told report
  -- the last flush has the words of gauges that the workers' steps left
  pub words : AllByRecursion (λ reading. LeftBy reading.id.0 (map (λ worker. worker.gauges) told.workers) reading.word)
      told.last.shown.gauges

-- A run of this plan, over files with these events, that gave this report. No event was refused: each worker's entries
-- are those of its events.
pub record RunAccounts (plan : RunPlan) (events : List (List Event)) (told : RunTold) (report : Report)
    : Type 0 where
  pub parties : StoreAccounts plan events told report
  pub follow : EachNumbered (FollowsEvents plan.rules (length told.workers)) 1 told.workers
