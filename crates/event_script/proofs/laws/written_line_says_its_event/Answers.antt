use Rattle.event_script.proofs.Written.{written}
use Rattle.event_script.proofs.laws.written_line_says_its_event.Goals as goal

pub returns : goal.returns
returns c = written
