use Rattle.std.proofs.Common.{◌-◌}
use Rattle.event_script.specs.declared.limits.TheConstants.{MAX_EVENTS}
use Rattle.replay_files.proofs.SoFar.{SoFar}
use Rattle.library_examples.proofs.reading.apply_lines.Given as goal

abbrev pub invariant-loop-lines : goal.invariant-loop-lines
invariant-loop-lines g l =
    SoFar g.S.Source.state l.initial.lines l.lines l.fn.store l.store l.verdicts.items

abbrev pub decreases-loop-lines : goal.decreases-loop-lines
decreases-loop-lines g l = MAX_EVENTS - l.lines.given
