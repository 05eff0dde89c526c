use Rattle.flush_view.specs.Walk.{GoesTo}
use Rattle.flush_view.proofs.walk.Walk.go_to.Given as goal

abbrev pub invariant-loop-i : goal.invariant-loop-i
invariant-loop-i l = GoesTo l._config l._i l.fn.self l.self
