use Rattle.event_script.proofs.Written.{file_read}
use Rattle.event_script.proofs.laws.written_events_are_read.Goals as goal

pub returns : goal.returns
returns c = file_read
