-- The end of a store: the last flush, and the report that its parties make together (this project's own).
use Rattle.std.specs.Prelude.{◌≡◌, ℕ, ◌<◌, List, [], ◌∷◌, ◌++◌, length, map}
use Rattle.stat_defs.specs.declared.configs.Config.{Config}
use Rattle.stat_defs.specs.declared.events.Event.{Event}
use Rattle.stat_defs.specs.declared.history.Entry.{Entry}
use Rattle.stat_defs.specs.declared.ids.MetricId.{MetricId}
use Rattle.stat_defs.specs.declared.reports.LastFlush.{LastFlush}
use Rattle.stat_defs.specs.declared.reports.Report.{Report}
use Rattle.book_state.specs.declared.limits.TheConstants.{MAX_METRICS}
use Rattle.name_changes.specs.Changes.{names_in_log}
use Rattle.locked_book.specs.Sharing.{first_of}
use Rattle.metric_words.specs.CounterLaws.{IsCounterEnd}
use Rattle.flush_words.specs.Words.{after_latches}
use Rattle.ledger.specs.Ledger.{RunPlan, plan_of}
use Rattle.ledger.specs.Lists.{EachNumbered}
use Rattle.ledger.specs.Work.{events_in, verdicts_in}
use Rattle.run_ledger.specs.Told.{FlushTold, RunTold, all_flushes}
use Rattle.run_ledger.specs.Accounts.{StoreAccounts, FollowsEvents}
use Rattle.store_parts.specs.declared.store.Store.{Store}
use Rattle.recorder.specs.declared.ended.Ended.{Ended}
use Rattle.recorder.specs.Ending.{told_at_end}
use Rattle.recorder.specs.Tied.{HasEnded, HasFollowedToEnd}
use Rattle.admin_side.specs.Reader.{ReaderKnown}
use Rattle.admin_side.specs.Telling.{told_at}
use Rattle.flusher.specs.Flusher.{FlusherKnown}

-- all workers of the store have ended; this is what they left, in order
pub record HaveEnded (store : Store) (ended : List Ended) : Type 0 where
  pub each : EachNumbered (HasEnded store) 1 ended
  pub all : length ended ≡ (first_of store.book).workers

-- what the workers, the flusher and the reader tell, and this last flush
abbrev pub told_of : List Ended → FlusherKnown → ReaderKnown → FlushTold → RunTold
told_of ended flusher reader last = record {
  workers = map told_at_end ended;
  flushes = flusher.flushes;
  last = last;
  reads = map (told_at (last.found ++ last.sweep ∷ [])) reader.reads;
  flusher = (after_latches last.shown.deltas flusher.counters).own.steps;
  reader = reader.counters.own.steps;
}

-- the plan that was carried out: that of the configuration, with as many flushes and readings as were made
abbrev pub plan_told : Config → RunTold → RunPlan
plan_told config told = record (plan_of config) { flushes = length told.flushes; reads = length told.reads }

abbrev pub events_told : RunTold → List (List Event)
events_told told = map (λ worker. events_in worker.work) told.workers

-- the report that they make, where nothing is told of the files' ends
abbrev pub report_told : RunTold → List Entry → Report
report_told told log = record {
  verdicts = map (λ worker. verdicts_in worker.work) told.workers;
  flushes = map (λ flush. flush.shown) (all_flushes told);
  log = log;
  reads = map (λ read. read.shown) told.reads;
  ends = [];
}

-- a counter's last words: all that was accepted of it was latched, and nothing is pending
pub record IsEmptied (told : RunTold) (id : MetricId) : Type 0 where
  pub value : ℕ
  pub end : IsCounterEnd id.0 (map (λ worker. worker.counts) told.workers) told.flusher told.reader value 0

-- where a worker's seat ended behind the entries of its events, these are its entries in the log
abbrev pub EachFollows : RunPlan → RunTold → List Ended → Type 0
EachFollows plan told ended = EachNumbered
    (λ w e. HasFollowedToEnd e → FollowsEvents plan.rules (length told.workers) w (told_at_end e)) 1 ended

-- The store came to its end with this last flush and this log. All its parties account for what they did, whether events
-- were refused or not, and nothing is pending in any word of the counters' bank, whether its number was a counter's,
-- another metric's or none. The names are those of the log.
pub record Closes (store : Store) (ended : List Ended) (flusher : FlusherKnown) (reader : ReaderKnown)
    (last : LastFlush) : Type 0 where
  pub flush : FlushTold
  pub shown : flush.shown ≡ last.last
  pub accounts : StoreAccounts (plan_told (first_of store.book).config (told_of ended flusher reader flush))
      (events_told (told_of ended flusher reader flush)) (told_of ended flusher reader flush)
      (report_told (told_of ended flusher reader flush) last.log)
  pub follow : EachFollows (plan_told (first_of store.book).config (told_of ended flusher reader flush))
      (told_of ended flusher reader flush) ended
  pub emptied : (id : ℕ) → id < MAX_METRICS → IsEmptied (told_of ended flusher reader flush) (record { 0 = id })
  pub names : let first = first_of store.book in
      last.names ≡ names_in_log (plan_of first.config).rules first.workers last.log
