use Rattle.std.proofs.Common.{◌≡◌, map, take, drop}
use Rattle.flush_view.specs.Before.{before_of}
use Rattle.flush_view.specs.Views.{state_before, view_rules}
use Rattle.flush_view.specs.Walk.{IsThere, AreRising}
use Rattle.flush_view.proofs.walk.befores_in.Given as goal

abbrev pub invariant-loop-flush : goal.invariant-loop-flush
invariant-loop-flush l = record {
  there : IsThere l._config l.walk;
  report : l.walk.report.now ≡ l.report;
  rising : AreRising l.walk.at (drop l.flush-index l.report.flushes);
  befores : l.befores.items ≡ map
      (λ flush. before_of (state_before (view_rules l._config).names l.report.log flush))
      (take l.flush-index l.report.flushes);
}
