use Rattle.std.proofs.Common.{◌≡◌}
use Rattle.metric_words.specs.GaugeLedger.{gauges_id, gauge_known}
use Rattle.thread_tests.proofs.gauges.add_and_set.Given as goal

abbrev pub invariant-loop : goal.invariant-loop
invariant-loop l = (gauge_known l.seat).bank ≡ gauges_id l.bank
