use Rattle.run_files.specs.Flushes.{HasLooked}
use Rattle.run_files.proofs.flushes.take_halves.Given as goal

abbrev pub invariant-loop : goal.invariant-loop
invariant-loop g l =
    (goal.iterator-loop g).can_next l.iterator'
    × (goal.iterator-loop g).is_finite l.iterator'
    × HasLooked l.hall.store.now l.fn.flusher l.flusher
