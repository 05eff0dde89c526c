use Rattle.std.proofs.Common.{◌≡◌, Some}
use Rattle.stat_defs.specs.declared.reports.FileEnd.{FileEnd}
use Rattle.event_script.specs.Ready.{GoesOn, turns_left}
use Rattle.event_script.proofs.lines.Lines.ready.Given as goal

abbrev pub invariant-loop-alloc : goal.invariant-loop-alloc
invariant-loop-alloc g l = record {
  goes : GoesOn g.S.Source.state l.fn.self l.self;
  same : (end : FileEnd) → l.fn.self.ended ≡ Some end → l.self ≡ l.fn.self;
}

abbrev pub decreases-loop-alloc : goal.decreases-loop-alloc
decreases-loop-alloc g l = turns_left l.self
