use Rattle.stat_name.proofs.Storing.{number_read_again}
use Rattle.stat_name.proofs.numbers.written_numbers_are_read_again.Goals as goal

pub returns : goal.returns
returns c = number_read_again
