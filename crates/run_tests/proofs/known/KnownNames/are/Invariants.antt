use Rattle.run_tests.proofs.known.KnownNames.are.Given as goal

abbrev pub invariant-loop-metric : goal.invariant-loop-metric
invariant-loop-metric l =
    (goal.iterator-loop-metric).can_next l.left × (goal.iterator-loop-metric).is_finite l.left
