-- What a thread of the benchmark asks (this project's own).
use Rattle.std.specs.Prelude.{◌≡◌, ℕ, ◌<◌, []}
use Rattle.metric_words.specs.declared.counter_bank.CounterBank.{CounterBank}
use Rattle.metric_words.specs.declared.counter_seats.WorkerSeat.{WorkerSeat}
use Rattle.metric_words.specs.declared.gauge_bank.GaugeBank.{GaugeBank}
use Rattle.metric_words.specs.declared.gauge_seats.GaugeSeat.{GaugeSeat}
use Rattle.metric_words.specs.CounterLedger.{bank_id, size_of, worker_known}
use Rattle.metric_words.specs.GaugeLedger.{gauges_id, gauges_size, gauge_known}

-- a seat of the bank that has made no step, and a counter of it
abbrev pub IsReady : CounterBank → WorkerSeat → ℕ → Type 0
IsReady bank seat id = ((worker_known seat).bank ≡ bank_id bank) × ((worker_known seat).own.steps ≡ []) × (id < size_of bank)

-- a seat of the bank, which has 16 gauges
abbrev pub IsGaugeReady : GaugeBank → GaugeSeat → Type 0
IsGaugeReady bank seat = ((gauge_known seat).bank ≡ gauges_id bank) × (gauges_size bank ≡ 16)
