-- How the store's end makes the last of what the parties tell. This project's own.
use Rattle.std.specs.Prelude.{◌≡◌, ℕ, List, [], ◌∷◌, ◌++◌}
use Rattle.std.specs.List.{AllByRecursion}
use Rattle.stat_defs.specs.Books.{BookHistory}
use Rattle.stat_defs.specs.declared.history.Entry.{Entry}
use Rattle.stat_defs.specs.declared.ids.MetricId.{MetricId}
use Rattle.seat_history.specs.declared.known.LogKnown.{LogKnown}
use Rattle.seat_history.specs.History.{past, entries_by, SeatHistory}
use Rattle.metric_words.specs.declared.counter_view.CountKind.TheVariants as count
use Rattle.metric_words.specs.declared.counter_view.CountPart.{CountPart}
use Rattle.metric_words.specs.declared.counter_view.CountStep.{CountStep}
use Rattle.metric_words.specs.declared.gauge_view.GaugePart.{GaugePart}
use Rattle.metric_words.specs.Counters.{step_of}
use Rattle.metric_words.specs.Gauges.{written, IsGaugeWord}
use Rattle.run_ledger.specs.Accounts.{IsLatched, LeftBy}

pub record RunEnds : Type 0 where
  -- once the seats of all workers are taken in, one latch more leaves all that were latched before as they are
  pub latch : (seats : List CountPart) (steps : List CountStep) (done : List MetricId) (id : MetricId) (units : ℕ)
      → AllByRecursion (IsLatched seats steps) done
      → IsLatched seats (step_of count.Latch id.0 0 units ∷ steps) id
      → AllByRecursion (IsLatched seats (step_of count.Latch id.0 0 units ∷ steps)) (done ++ id ∷ [])
  -- The log of the book as the lock gave it back, and the last sweep behind it: past the log that the book was made
  -- with, the entries of the store are those that its seat made, and that sweep.
  pub sweep : (first : BookHistory) (log rest : List Entry) (seat : LogKnown) (sweep : Entry) → log ≡ first.log ++ rest
      → SeatHistory first log seat → sweep.seat ≡ seat.number
      → entries_by seat.number (past first.log (log ++ sweep ∷ [])) ≡ seat.made ++ sweep ∷ []
  -- the word of a gauge that the store loads with the seats of all workers and of the reader behind its own, where
  -- neither the store nor the reader wrote
  pub word : (id word : ℕ) (own reader : GaugePart) (workers : List GaugePart)
      → written id own.steps ≡ 0 → written id reader.steps ≡ 0 → IsGaugeWord id (own ∷ (workers ++ reader ∷ [])) word
      → LeftBy id workers word
