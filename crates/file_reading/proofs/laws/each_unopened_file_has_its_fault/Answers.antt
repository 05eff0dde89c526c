use Rattle.file_reading.proofs.UnopenedFiles.{count_of_files}
use Rattle.file_reading.proofs.laws.each_unopened_file_has_its_fault.Goals as goal

pub returns : goal.returns
returns g c = count_of_files g.F.Shelf.state g.F.S.Source.state
