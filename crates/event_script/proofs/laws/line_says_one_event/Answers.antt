use Rattle.event_script.proofs.OneReading.{one_event}
use Rattle.event_script.proofs.laws.line_says_one_event.Goals as goal

pub returns : goal.returns
returns c = one_event
