use Rattle.metric_words.proofs.GaugeLaws.{unwritten, one-writer}
use Rattle.metric_words.proofs.laws.one_writer_of_a_gauge.Goals as goal

pub returns : goal.returns
returns c = record { none = unwritten; one = one-writer }
