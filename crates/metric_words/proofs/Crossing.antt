-- Threads may share the seats of a bank.
use denote.Param.Send.{IsSync, sendable}
use Rattle.seat_parts.proofs.Crossing.{seat_sync}
use Rattle.metric_words.specs.contracts.counter_seats.WorkerSeat as worker
use Rattle.metric_words.specs.contracts.counter_seats.FlushSeat as flush
use Rattle.metric_words.specs.contracts.counter_seats.ReadSeat as reader
use Rattle.metric_words.specs.contracts.gauge_seats.GaugeSeat as gauge

pub worker_sync : IsSync worker.the_row
worker_sync = search (seat_sync, sendable) depth 20

pub flush_sync : IsSync flush.the_row
flush_sync = search (seat_sync, sendable) depth 20

pub reader_sync : IsSync reader.the_row
reader_sync = search (seat_sync, sendable) depth 20

pub gauge_sync : IsSync gauge.the_row
gauge_sync = search (seat_sync, sendable) depth 20
