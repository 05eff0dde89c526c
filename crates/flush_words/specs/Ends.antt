-- The last words of counters and of gauges (this project's own).
use Rattle.std.specs.Prelude.{◌≡◌, ℕ, ◌<◌, List, ◌∷◌, map, All, slice_index}
use Rattle.seat_parts.specs.Parts.{total}
use Rattle.stat_defs.specs.declared.ids.MetricId.{MetricId}
use Rattle.stat_defs.specs.declared.reports.Delta.{Delta}
use Rattle.stat_defs.specs.declared.reports.Reading.{Reading}
use Rattle.metric_words.specs.declared.counter_view.CountPart.{CountPart}
use Rattle.metric_words.specs.declared.counter_view.CountStep.{CountStep}
use Rattle.metric_words.specs.declared.counter_seats.WordSeats.{WordSeats}
use Rattle.metric_words.specs.declared.gauge_view.GaugePart.{GaugePart}
use Rattle.metric_words.specs.Counters.{seconds, latches, Rises}
use Rattle.metric_words.specs.CounterLedger.{worker_part, flush_known, read_steps}
use Rattle.metric_words.specs.CounterLaws.{IsCounterEnd}
use Rattle.metric_words.specs.Gauges.{written, IsGaugeWord}
use Rattle.metric_words.specs.GaugeLedger.{GaugeKnown}
use Rattle.flush_words.specs.Words.{after_latches}
use Rattle.flush_words.specs.declared.counter_ends.CounterEnds.{CounterEnds}

-- the steps of the flusher's seat after these latches
abbrev pub latched_steps : WordSeats → List Delta → List CountStep
latched_steps s deltas = (after_latches deltas (flush_known s.flusher)).own.steps

-- all that these workers accepted of the counter was latched
abbrev pub IsAllLatched : List CountPart → List CountStep → Delta → Type 0
IsAllLatched workers steps d = latches d.id.0 steps ≡ total (λ p. seconds d.id.0 p.steps) workers

-- The end of a bank of so many counters, with all its seats, after a last latch of these: each of them is latched
-- whole, and every counter of the bank has its last words.
pub record CountersEnd (size : ℕ) (s : WordSeats) (last : List MetricId) (ends : CounterEnds) : Type 0 where
  pub ids : map (λ d. d.id) ends.deltas.items ≡ last
  pub latched : All (IsAllLatched (map worker_part s.workers.items) (latched_steps s ends.deltas.items)) ends.deltas.items
  pub each : (id : ℕ) → id < size → IsCounterEnd id (map worker_part s.workers.items)
      (latched_steps s ends.deltas.items) (read_steps s) (slice_index ends.words.values id) (slice_index ends.words.pending id)
  pub rises : (id : ℕ) → id < size → Rises id (read_steps s) (slice_index ends.words.values id)

-- The reading has the word that the steps of all seats left: those of the seats that this one had taken in, and its
-- own, which wrote nothing more.
pub record IsLastWord (k : GaugeKnown) (r : Reading) : Type 0 where
  pub own : GaugePart
  pub idle : (id : ℕ) → written id own.steps ≡ written id k.own.steps
  pub word : IsGaugeWord r.id.0 (own ∷ k.taken) r.word
