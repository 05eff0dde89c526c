use Rattle.run_gates.proofs.Packets.{packet-full, packet-part}
use Rattle.run_gates.proofs.pace.packet_at.Goals as goal

pub returns-then-done-packet-eq0 : goal.returns-then-done-packet-eq0
returns-then-done-packet-eq0 c = packet-full c.args.done c.args.bits c.packet_of-packet.result c.packet_of-packet.ensures c.if-done-packet-eq0.true

pub returns-else-done-packet-eq0 : goal.returns-else-done-packet-eq0
returns-else-done-packet-eq0 c = packet-part c.args.done c.args.bits c.packet_of-packet.result c.packet_of-packet.ensures c.if-done-packet-eq0.false
