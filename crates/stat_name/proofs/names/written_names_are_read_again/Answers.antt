use Rattle.stat_name.proofs.Storing.{name_read_again}
use Rattle.stat_name.proofs.names.written_names_are_read_again.Goals as goal

pub returns : goal.returns
returns c = name_read_again
