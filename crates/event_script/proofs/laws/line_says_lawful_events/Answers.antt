use Rattle.event_script.proofs.Written.{lawful_event}
use Rattle.event_script.proofs.laws.line_says_lawful_events.Goals as goal

pub returns : goal.returns
returns c = lawful_event
