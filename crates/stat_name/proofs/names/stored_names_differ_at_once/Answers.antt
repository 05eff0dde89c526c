use Rattle.stat_name.proofs.Storing.{stored_begins_one}
use Rattle.stat_name.proofs.names.stored_names_differ_at_once.Goals as goal

pub returns : goal.returns
returns c = stored_begins_one
