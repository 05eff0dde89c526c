use denote.Param.Send.{sendable}
use Rattle.metric_words.proofs.Crossing.{worker_sync, flush_sync, reader_sync}
use Rattle.thread_tests.proofs.counters.bank_and_seats_cross_threads.Goals as goal

pub crosses_threads-requires-2-sync-T : goal.crosses_threads-requires-2-sync-T
crosses_threads-requires-2-sync-T c κs = search (worker_sync, sendable) depth 20

pub crosses_threads-requires-3-sync-T : goal.crosses_threads-requires-3-sync-T
crosses_threads-requires-3-sync-T c κs = search (flush_sync, sendable) depth 20

pub crosses_threads-requires-4-sync-T : goal.crosses_threads-requires-4-sync-T
crosses_threads-requires-4-sync-T c κs = search (reader_sync, sendable) depth 20
