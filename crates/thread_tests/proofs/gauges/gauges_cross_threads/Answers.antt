use denote.Param.Send.{sendable}
use Rattle.metric_words.proofs.Crossing.{gauge_sync}
use Rattle.thread_tests.proofs.gauges.gauges_cross_threads.Goals as goal

pub crosses_threads-requires-2-sync-T : goal.crosses_threads-requires-2-sync-T
crosses_threads-requires-2-sync-T c κs = search (gauge_sync, sendable) depth 20
