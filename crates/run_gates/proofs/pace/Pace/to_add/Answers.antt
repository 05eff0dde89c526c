use Rattle.std.proofs.Common.{sym, ◌∙◌}
use Rattle.run_gates.proofs.Packets.{added-first, added-later}
use Rattle.run_gates.proofs.pace.Pace.to_add.Goals as goal

pub returns-then-event-le1 : goal.returns-then-event-le1
returns-then-event-le1 c = sym (added-first c.args.self.now.bits c.args.event c.if-event-le1.true)

pub returns : goal.returns
returns c = c.packet_at.ensures ∙ sym (added-later c.args.self.now.bits c.args.event c.if-event-le1.false)
