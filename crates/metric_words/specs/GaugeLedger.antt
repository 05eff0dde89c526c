-- What clauses read of a gauge bank and of its seats, and what its words are at the end (this project's own).
use Rattle.std.specs.Prelude.{◌≡◌, ℕ, ◌+◌, ◌*◌, ◌<◌, ◌≤◌, List, [], ◌∷◌, ◌++◌, length, map, All, slice_index}
use Rattle.std.specs.List.{range_with_len}
use Rattle.atomic_table.specs.Seated.{TableId}
use Rattle.metric_words.specs.declared.gauge_view.GaugeStep.{GaugeStep}
use Rattle.metric_words.specs.declared.gauge_view.GaugePart.{GaugePart}
use Rattle.metric_words.specs.declared.gauge_bank.GaugeBank.{GaugeBank}
use Rattle.metric_words.specs.declared.gauge_seats.GaugeSeat.{GaugeSeat}
use Rattle.metric_words.specs.declared.gauge_seats.GaugeSeats.{GaugeSeats}
use Rattle.metric_words.specs.Known.{SeatKnown, known_of, new_known, own_after, all_of}
use Rattle.metric_words.specs.Gauges.{new_gauge, longer_gauge, IsGaugeWord}

-- which bank it is, and with how many gauges and workers
abbrev pub gauges_id : GaugeBank → TableId
gauges_id b = b.table.shared.table_id

abbrev pub gauges_size : GaugeBank → ℕ
gauges_size b = b.table.shared.key.size

abbrev pub gauges_workers : GaugeBank → ℕ
gauges_workers b = b.table.shared.key.workers

-- what a seat of a gauge bank knows
abbrev pub GaugeKnown : Type 0
GaugeKnown = SeatKnown GaugePart

abbrev pub gauge_known : GaugeSeat → GaugeKnown
gauge_known s = known_of (new_gauge 0 0) s.seat.table_id s.seat.me

abbrev pub gauge_part : GaugeSeat → GaugePart
gauge_part s = (gauge_known s).own

-- its own part, and those of the seats that it took in
abbrev pub gauge_all : GaugeSeat → List GaugePart
gauge_all s = all_of (gauge_known s)

-- the same after one step more
abbrev pub after_gauge_step : GaugeStep → GaugeKnown → GaugeKnown
after_gauge_step s k = own_after (longer_gauge s) k

-- once all other seats are taken in, the word is what all steps on the gauge left
abbrev pub ReadsAll : ℕ → GaugeKnown → ℕ → Type 0
ReadsAll id k word = length k.taken ≡ k.own.workers + 1 → IsGaugeWord id (all_of k) word

-- a seat of a new bank
abbrev pub IsNewGauge : TableId → ℕ → GaugeSeat → Type 0
IsNewGauge bank workers s = gauge_known s ≡ new_known bank (new_gauge workers (gauge_part s).seat)

-- The seats of a new bank, which have made no step: the flusher's has the number 0, the workers' have those from 1 to W
-- in order, and the reader's has W + 1.
pub record AreNewGauges (bank : TableId) (workers : ℕ) (s : GaugeSeats) : Type 0 where
  pub workers_count : length s.workers.items ≡ workers
  pub workers_new : All (IsNewGauge bank workers) s.workers.items
  pub workers_numbers : map (λ w. (gauge_part w).seat) s.workers.items ≡ range_with_len 1 workers
  pub flusher : gauge_known s.flusher ≡ new_known bank (new_gauge workers 0)
  pub reader : gauge_known s.reader ≡ new_known bank (new_gauge workers (workers + 1))

-- every seat of the bank is given, or was taken in by the flusher's seat that is given
pub record AreAllGauges (bank : TableId) (workers : ℕ) (s : GaugeSeats) : Type 0 where
  pub count : workers ≤ length s.workers.items + length (gauge_known s.flusher).taken
  pub workers_bank : All (λ w. (gauge_known w).bank ≡ bank) s.workers.items
  pub flusher_bank : (gauge_known s.flusher).bank ≡ bank
  pub reader_bank : (gauge_known s.reader).bank ≡ bank

-- all seats of a bank: the flusher's, those that it took in, the other workers', and the reader's
abbrev pub gauge_parts : GaugeSeats → List GaugePart
gauge_parts s = gauge_all s.flusher ++ (map gauge_part s.workers.items ++ gauge_part s.reader ∷ [])

-- the words of all gauges
abbrev pub SameWords : ℕ → List ℕ → List ℕ → Type 0
SameWords size words copy = (length copy ≡ size) × ((id : ℕ) → id < size → slice_index copy id ≡ slice_index words (8 * id))

-- the words at the end: each is what all steps left
pub record IsGaugeLedger (size : ℕ) (seats : List GaugePart) (words : List ℕ) : Type 0 where
  pub words_length : length words ≡ size
  pub each : (id : ℕ) → id < size → IsGaugeWord id seats (slice_index words id)
