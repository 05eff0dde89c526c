use Rattle.std.proofs.Common.{◌≡◌, true}
use Rattle.store_tests.proofs.reports.put_views.Given as goal

abbrev pub invariant-loop : goal.invariant-loop
invariant-loop l = l.views.whole ≡ true
