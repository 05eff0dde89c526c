-- What the end of a store makes, piece by piece (this project's own).
use Rattle.std.specs.Prelude.{ℕ, ◌<◌, List, [], ◌∷◌, ◌++◌, map}
use Rattle.std.specs.List.{AllByRecursion}
use Rattle.stat_defs.specs.declared.reports.Delta.{Delta}
use Rattle.seat_history.specs.declared.known.LogKnown.{LogKnown}
use Rattle.book_state.specs.declared.limits.TheConstants.{MAX_METRICS}
use Rattle.locked_book.specs.Sharing.{known_by}
use Rattle.metric_words.specs.declared.counter_view.CountPart.{CountPart}
use Rattle.metric_words.specs.declared.counter_view.CountStep.{CountStep}
use Rattle.metric_words.specs.declared.gauge_view.GaugePart.{GaugePart}
use Rattle.metric_words.specs.Counters.{Rises}
use Rattle.metric_words.specs.CounterLaws.{IsCounterEnd}
use Rattle.metric_words.specs.CounterLedger.{CounterKnown, worker_part}
use Rattle.metric_words.specs.GaugeLedger.{gauge_part}
use Rattle.flush_words.specs.Words.{after_latches}
use Rattle.run_ledger.specs.Accounts.{IsLatched}
use Rattle.recorder.specs.declared.ended.Ended.{Ended}

-- what all seats of the book know: the store's, the workers' in order, and the reader's
abbrev pub seats_at_end : LogKnown → List Ended → LogKnown → List LogKnown
seats_at_end store ended reader = store ∷ (map (λ e. known_by e.seat) ended ++ reader ∷ [])

-- the workers' seats of the counters, and of the gauges
abbrev pub counts_at_end : List Ended → List CountPart
counts_at_end ended = map (λ e. worker_part e.counts) ended

abbrev pub gauges_at_end : List Ended → List GaugePart
gauges_at_end ended = map (λ e. gauge_part e.gauges) ended

-- the last words of a counter, and no load found less than an earlier one
pub record LastWords (id : ℕ) (workers : List CountPart) (flusher reader : List CountStep) : Type 0 where
  pub value : ℕ
  pub pending : ℕ
  pub end : IsCounterEnd id workers flusher reader value pending
  pub rises : Rises id reader value

-- Each of these counters was latched when all workers were back, and each counter of the bank has its last words.
pub record EndsCounters (workers : List CountPart) (flusher reader : CounterKnown) (deltas : List Delta) : Type 0 where
  pub latched : AllByRecursion (λ d. IsLatched workers (after_latches deltas flusher).own.steps d.id) deltas
  pub each : (id : ℕ) → id < MAX_METRICS
      → LastWords id workers (after_latches deltas flusher).own.steps reader.own.steps
