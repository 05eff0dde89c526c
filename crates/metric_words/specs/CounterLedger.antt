-- What clauses read of a counter bank and of its seats, and the ledger at the end (this project's own).
use Rattle.std.specs.Prelude.{◌≡◌, ℕ, ◌+◌, ◌*◌, ◌<◌, ◌≤◌, List, length, map, All, slice_index}
use Rattle.std.specs.List.{range_with_len}
use Rattle.atomic_table.specs.Seated.{TableId}
use Rattle.atomic_table.specs.Table.{Me}
use Rattle.seat_parts.specs.Parts.{total}
use Rattle.metric_words.specs.declared.limits.TheConstants.{MAX_UNITS}
use Rattle.metric_words.specs.declared.counter_view.CountStep.{CountStep}
use Rattle.metric_words.specs.declared.counter_view.CountPart.{CountPart}
use Rattle.metric_words.specs.declared.counter_bank.CounterBank.{CounterBank}
use Rattle.metric_words.specs.declared.counter_seats.WorkerSeat.{WorkerSeat}
use Rattle.metric_words.specs.declared.counter_seats.FlushSeat.{FlushSeat}
use Rattle.metric_words.specs.declared.counter_seats.ReadSeat.{ReadSeat}
use Rattle.metric_words.specs.declared.counter_seats.WordSeats.{WordSeats}
use Rattle.metric_words.specs.declared.counter_view.SeatRole.TheVariants.{Worker, Flusher, Reader}
use Rattle.metric_words.specs.Counters.{View, new_part, longer, firsts, seconds, latches, Rises}
use Rattle.metric_words.specs.Known.{SeatKnown, known_of, new_known, own_after}

-- which bank it is, and with how many counters and workers
abbrev pub bank_id : CounterBank → TableId
bank_id b = b.table.shared.table_id

abbrev pub size_of : CounterBank → ℕ
size_of b = b.table.shared.key.size

abbrev pub workers_of : CounterBank → ℕ
workers_of b = b.table.shared.key.workers

-- what a seat of a counter bank knows
abbrev pub CounterKnown : Type 0
CounterKnown = SeatKnown CountPart

abbrev pub counter_known : TableId → Me (Unit {0}) View → CounterKnown
counter_known bank m = known_of (new_part Reader 0 0) bank m

abbrev pub worker_known : WorkerSeat → CounterKnown
worker_known w = counter_known w.seat.table_id w.seat.me

abbrev pub flush_known : FlushSeat → CounterKnown
flush_known f = counter_known f.seat.table_id f.seat.me

abbrev pub read_known : ReadSeat → CounterKnown
read_known r = counter_known r.seat.table_id r.seat.me

abbrev pub worker_part : WorkerSeat → CountPart
worker_part w = (worker_known w).own

-- the same after one step more
abbrev pub after_step : CountStep → CounterKnown → CounterKnown
after_step s k = own_after (longer s) k

-- once all workers' seats are taken in, the latches of the counter are all units that were accepted
abbrev pub LatchedAll : ℕ → CounterKnown → Type 0
LatchedAll id k = length k.taken ≡ k.own.workers
    → latches id k.own.steps ≡ total (λ p. seconds id p.steps) k.taken

-- a worker's seat of a new bank
abbrev pub IsNewWorker : TableId → ℕ → WorkerSeat → Type 0
IsNewWorker bank workers w = worker_known w ≡ new_known bank (new_part Worker workers (worker_part w).seat)

-- The seats of a new bank, which have made no step: the flusher's has the number 0, the workers' have those from 1 to W
-- in order, and the reader's has W + 1.
pub record AreNew (bank : TableId) (workers : ℕ) (s : WordSeats) : Type 0 where
  pub workers_count : length s.workers.items ≡ workers
  pub workers_new : All (IsNewWorker bank workers) s.workers.items
  pub workers_numbers : map (λ w. (worker_part w).seat) s.workers.items ≡ range_with_len 1 workers
  pub flusher : flush_known s.flusher ≡ new_known bank (new_part Flusher workers 0)
  pub reader : read_known s.reader ≡ new_known bank (new_part Reader workers (workers + 1))

-- every seat of the bank is given, or was taken in by the flusher's seat that is given
pub record AreAll (bank : TableId) (workers : ℕ) (s : WordSeats) : Type 0 where
  pub count : length s.workers.items + length (flush_known s.flusher).taken ≡ workers
  pub workers_bank : All (λ w. (worker_known w).bank ≡ bank) s.workers.items
  pub flusher_bank : (flush_known s.flusher).bank ≡ bank
  pub reader_bank : (read_known s.reader).bank ≡ bank

-- the sum of f over the workers' seats, those taken in among them
abbrev pub workers_total : (CountPart → ℕ) → WordSeats → ℕ
workers_total f s = total (λ w. f (worker_part w)) s.workers.items + total f (flush_known s.flusher).taken

-- the sum of f over all seats of a bank
abbrev pub seats_total : (CountPart → ℕ) → WordSeats → ℕ
seats_total f s = workers_total f s + f (flush_known s.flusher).own + f (read_known s.reader).own

-- the steps of the flusher, and those of the reader
abbrev pub flush_steps : WordSeats → List CountStep
flush_steps s = (flush_known s.flusher).own.steps

abbrev pub read_steps : WordSeats → List CountStep
read_steps s = (read_known s.reader).own.steps

-- the value and the pending word of each counter
pub record HasWords (size : ℕ) (words values pending : List ℕ) : Type 0 where
  pub values_length : length values ≡ size
  pub pending_length : length pending ≡ size
  pub value : (id : ℕ) → id < size → slice_index values id ≡ slice_index words (8 * id)
  pub left : (id : ℕ) → id < size → slice_index pending id ≡ slice_index words (8 * id + 1)

-- The ledger at the end, for each counter: its value is the sum of the workers' first steps. What is pending and the
-- latches are together the sum of their second steps, which is the same number.
-- No load found more than the value. Where the flusher's latches are all units that were accepted, nothing is pending.
pub record IsLedger (size workers : ℕ) (s : WordSeats) (values pending : List ℕ) : Type 0 where
  pub values_length : length values ≡ size
  pub pending_length : length pending ≡ size
  pub value : (id : ℕ) → id < size → slice_index values id ≡ workers_total (λ p. firsts id p.steps) s
  pub accepted : (id : ℕ) → id < size → slice_index pending id + latches id (flush_steps s) ≡
      workers_total (λ p. seconds id p.steps) s
  pub even : (id : ℕ) → id < size → slice_index values id ≡ slice_index pending id + latches id (flush_steps s)
  pub units : (id : ℕ) → id < size → slice_index values id ≤ workers * MAX_UNITS
  pub loads : (id : ℕ) → id < size → Rises id (read_steps s) (slice_index values id)
  pub latched : (id : ℕ) → id < size → latches id (flush_steps s) ≡ workers_total (λ p. seconds id p.steps) s
      → slice_index pending id ≡ 0
