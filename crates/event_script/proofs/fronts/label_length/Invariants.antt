use Rattle.std.proofs.Common.{◌-◌, length}
use Rattle.stat_defs.specs.Names.{is_label_byte}
use Rattle.event_script.specs.Lanes.{IsFront}
use Rattle.event_script.proofs.fronts.label_length.Given as goal

abbrev pub invariant-loop-end : goal.invariant-loop-end
invariant-loop-end l = IsFront is_label_byte l.text l.end

abbrev pub decreases-loop-end : goal.decreases-loop-end
decreases-loop-end l = length l.text - l.end
