use Rattle.event_script.proofs.OneReading.{file_single}
use Rattle.event_script.proofs.laws.file_is_single_valued.Goals as goal

pub returns : goal.returns
returns c = file_single
