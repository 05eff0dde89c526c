use Rattle.std.proofs.Common.{sym}
use Rattle.event_script.proofs.NoEvent.{no_event, not_passed}
use Rattle.event_script.proofs.cutting.said_without.Goals as goal

pub returns : goal.returns
returns c = (
  c.if-line-gt-MAX_LINE_BYTES.false,
  record {
    not_passed = not_passed c.args.line.now (sym c.if-is_empty.ensures) c.if-line-eq35.false;
    no_event = no_event c.args.line.now c.requires;
  },
)
