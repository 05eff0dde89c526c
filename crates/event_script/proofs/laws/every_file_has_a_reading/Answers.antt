use Rattle.stats_io.specs.declared.pulling.Pulled.TheVariants.{End}
use Rattle.event_script.proofs.EveryFile.{from_total}
use Rattle.event_script.proofs.laws.every_file_has_a_reading.Goals as goal

pub returns : goal.returns
returns c = record { whole_file = λ bytes. from_total 1 0 0 bytes End; from_any_place = from_total }
