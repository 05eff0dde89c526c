-- How what the parties tell grows by one call of each. This project's own.
use Rattle.std.specs.Prelude.{◌≡◌, ℕ, false, List, [], ◌∷◌, ◌++◌}
use Rattle.stat_defs.specs.declared.events.Event.{Event}
use Rattle.stat_defs.specs.declared.events.Event.TheVariants as event
use Rattle.stat_defs.specs.declared.events.GaugeOp.{GaugeOp}
use Rattle.stat_defs.specs.declared.events.GaugeOp.TheVariants as op
use Rattle.stat_defs.specs.declared.history.Entry.{Entry}
use Rattle.stat_defs.specs.declared.history.Verdict.{Verdict}
use Rattle.stat_defs.specs.declared.history.Verdict.TheVariants.{Accepted}
use Rattle.stat_defs.specs.declared.reports.Delta.{Delta}
use Rattle.stat_defs.specs.declared.reports.Reading.{Reading}
use Rattle.stat_defs.specs.declared.reports.FlushRecord.{FlushRecord}
use Rattle.metric_words.specs.declared.counter_view.CountKind.TheVariants as count
use Rattle.metric_words.specs.declared.counter_view.CountStep.{CountStep}
use Rattle.metric_words.specs.declared.gauge_view.GaugeKind.{GaugeKind}
use Rattle.metric_words.specs.declared.gauge_view.GaugeKind.TheVariants as gauge
use Rattle.metric_words.specs.declared.gauge_view.GaugeStep.{GaugeStep}
use Rattle.metric_words.specs.Counters.{step_of, latches}
use Rattle.metric_words.specs.Gauges.{gauge_step}
use Rattle.book_state.specs.State.{NameRules}
use Rattle.ledger.specs.Work.{Recording}
use Rattle.ledger.specs.Flushes.{flushed}
use Rattle.run_ledger.specs.Told.{WorkerTold, FlushTold, ReadTold, halves_at, halves_of, words_read, words_loaded}
use Rattle.run_ledger.specs.Accounts.{DidItsWork, FlushAccounts, ReadAccounts}

-- An accepted increment makes its one add, and any other event none.
abbrev pub Adds : Event × Verdict → List CountStep → List CountStep → Type 0
Adds (event.Inc label name n, Accepted id) old new =
    (x y : ℕ) × (new ≡ step_of count.Second id.0 n y ∷ step_of count.First id.0 n x ∷ old)
Adds other old new = new ≡ old

abbrev pub kind_of : GaugeOp → GaugeKind
kind_of op.Add = gauge.Add
kind_of op.Sub = gauge.Sub
kind_of op.Set = gauge.Set

-- An accepted gauge event makes its one step, which found some word, and any other event none.
abbrev pub Moves : Event × Verdict → List GaugeStep → List GaugeStep → Type 0
Moves (event.Gauge label name mode how n, Accepted id) old new =
    (found : ℕ) × (new ≡ gauge_step (kind_of how) id.0 n found ∷ old)
Moves other old new = new ≡ old

-- An accepted recording goes into the active half, and nothing else does.
abbrev pub Records : Event × Verdict → List Recording → List Recording → Type 0
Records (event.Rec label name v, Accepted id) old new = new ≡ old ++ (id.0, v) ∷ []
Records other old new = new ≡ old

-- a worker decided one event more
pub record Decides (old : WorkerTold) (told : Event × Verdict) (new : WorkerTold) : Type 0 where
  pub work : new.work ≡ old.work ++ told ∷ []
  pub adds : Adds told old.counts.steps new.counts.steps
  pub moves : Moves told old.gauges.steps new.gauges.steps
  pub records : Records told old.active new.active
  pub turned : new.turned ≡ old.turned

-- a worker turned its active half, and the spare that became active is empty
pub record Turns (old new : WorkerTold) : Type 0 where
  pub work : new.work ≡ old.work
  pub counts : new.counts.steps ≡ old.counts.steps
  pub gauges : new.gauges.steps ≡ old.gauges.steps
  pub turned : new.turned ≡ old.turned ++ old.active ∷ []
  pub active : new.active ≡ []

-- a latch for each of these deltas, in order, which found its units
abbrev pub Latches : List Delta → List CountStep → List CountStep → Type 0
Latches [] old new = new ≡ old
Latches (d ∷ ds) old new = Latches ds (step_of count.Latch d.id.0 0 d.n ∷ old) new

-- a load for each of these readings, in order, which found its word
abbrev pub Loads : List Reading → List CountStep → List CountStep → Type 0
Loads [] old new = new ≡ old
Loads (r ∷ rs) old new = Loads rs (step_of count.Load r.id.0 0 r.word ∷ old) new

pub record RunGrows : Type 0 where
  -- an event, and a turn, leave a worker that did its work
  pub event : (old : WorkerTold) (told : Event × Verdict) (new : WorkerTold)
      → DidItsWork old → Decides old told new → DidItsWork new
  pub turn : (old new : WorkerTold) → DidItsWork old → Turns old new → DidItsWork new
  -- a flush shows what its latches found, and takes of a worker the halves of its round
  pub latches : (id : ℕ) (flushes : List FlushRecord) (flush : FlushRecord) (old new : List CountStep)
      → latches id old ≡ flushed id flushes → Latches flush.deltas old new
      → latches id new ≡ flushed id (flushes ++ flush ∷ [])
  pub halves : (w : ℕ) (flushes : List FlushTold) (flush : FlushTold)
      → halves_of w (flushes ++ flush ∷ []) ≡ halves_of w flushes ++ halves_at flush.halves w
  -- a reading shows what its loads found
  pub loads : (id : ℕ) (reads : List ReadTold) (read : ReadTold) (old new : List CountStep)
      → words_loaded id old ≡ words_read id reads → Loads read.shown.counters old new
      → words_loaded id new ≡ words_read id (reads ++ read ∷ [])
  -- flushes and readings are the same with more log entries
  pub flush : (rules : NameRules) (workers : ℕ) (log more : List Entry) (flush : FlushTold)
      → FlushAccounts rules workers log false flush → FlushAccounts rules workers (log ++ more) false flush
  pub read : (rules : NameRules) (workers : ℕ) (log more : List Entry) (read : ReadTold)
      → ReadAccounts rules workers log read → ReadAccounts rules workers (log ++ more) read
