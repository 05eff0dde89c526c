-- What the parties of a run can tell once all of them have returned: each of its own calls alone. This project's own.
use Rattle.std.specs.Prelude.{ℕ, zero, suc, ◌==◌, if◌then◌else◌, List, [], ◌∷◌, ◌++◌, map, filter, reverse, get_or}
use Rattle.std.specs.List.{flat_map}
use Rattle.stat_defs.specs.declared.events.GaugeOp.TheVariants as op
use Rattle.stat_defs.specs.declared.history.Entry.{Entry}
use Rattle.stat_defs.specs.declared.reports.FlushRecord.{FlushRecord}
use Rattle.stat_defs.specs.declared.reports.ReadRecord.{ReadRecord}
use Rattle.stat_defs.specs.declared.reports.Reading.{Reading}
use Rattle.seat_history.specs.declared.known.LogKnown.{LogKnown}
use Rattle.metric_words.specs.declared.counter_view.CountStep.{CountStep}
use Rattle.metric_words.specs.declared.counter_view.CountPart.{CountPart}
use Rattle.metric_words.specs.declared.gauge_view.GaugeKind.{GaugeKind}
use Rattle.metric_words.specs.declared.gauge_view.GaugeKind.TheVariants.{Add, Sub, Set, Load}
use Rattle.metric_words.specs.declared.gauge_view.GaugeStep.{GaugeStep}
use Rattle.metric_words.specs.declared.gauge_view.GaugePart.{GaugePart}
use Rattle.metric_words.specs.CounterLaws.{loads_of}
use Rattle.ledger.specs.Work.{Work, Recording}
use Rattle.ledger.specs.Gauges.{GaugeMove}

-- A worker: its events with their verdicts; what its seat knows of the book's log; its seats of the counters and of the
-- gauges, with their steps; the values of each half that it turned, in order, and those of its active half.
pub record WorkerTold : Type 0 where
  pub work : Work
  pub seat : LogKnown
  pub counts : CountPart
  pub gauges : GaugePart
  pub turned : List (List Recording)
  pub active : List Recording

-- A flush: its record, the log that its sweep found, the entry of the sweep, and for each worker, in order, the values
-- of each half that it took in its round.
pub record FlushTold : Type 0 where
  pub shown : FlushRecord
  pub found : List Entry
  pub sweep : Entry
  pub halves : List (List (List Recording))

-- A reading, and the log whose names it found published.
pub record ReadTold : Type 0 where
  pub shown : ReadRecord
  pub found : List Entry

-- The workers in order, the flushes before the last one, the last one, the readings, and the steps of the flusher's and
-- of the reader's seat of the counters, the newest first.
pub record RunTold : Type 0 where
  pub workers : List WorkerTold
  pub flushes : List FlushTold
  pub last : FlushTold
  pub reads : List ReadTold
  pub flusher : List CountStep
  pub reader : List CountStep

abbrev pub all_flushes : RunTold → List FlushTold
all_flushes told = told.flushes ++ told.last ∷ []

-- what a step on a gauge does to it: a load does nothing
abbrev pub move_by : GaugeKind → ℕ → List GaugeMove
move_by Add n = (op.Add, n) ∷ []
move_by Sub n = (op.Sub, n) ∷ []
move_by Set n = (op.Set, n) ∷ []
move_by Load n = []

-- what the steps of a seat did to the gauge of this number, the oldest first
abbrev pub moves_made : ℕ → List GaugeStep → List GaugeMove
moves_made id [] = []
moves_made id (s ∷ ss) = moves_made id ss ++ (if s.id == id then move_by s.kind s.n else [])

-- the values of some halves, in order
abbrev pub values_in : List (List Recording) → List Recording
values_in halves = flat_map (λ half. half) halves

-- what a flush took of each worker
abbrev pub taken_by : FlushTold → List (List Recording)
taken_by flush = map values_in flush.halves

-- the halves of this worker; workers are numbered from 1
abbrev pub halves_at : List (List (List Recording)) → ℕ → List (List Recording)
halves_at by zero = []
halves_at by (suc at) = get_or by at []

-- the halves of this worker that flushes took, in order
abbrev pub halves_of : ℕ → List FlushTold → List (List Recording)
halves_of w flushes = flat_map (λ flush. halves_at flush.halves w) flushes

-- the words of this counter in a list, and in readings, in order
abbrev pub words_on : ℕ → List Reading → List ℕ
words_on id readings = map (λ reading. reading.word) (filter (λ reading. reading.id.0 == id) readings)

abbrev pub words_read : ℕ → List ReadTold → List ℕ
words_read id reads = flat_map (λ read. words_on id read.shown.counters) reads

-- the words that the loads of this counter found, the oldest first
abbrev pub words_loaded : ℕ → List CountStep → List ℕ
words_loaded id steps = reverse (loads_of id steps)
