use Rattle.load_scripts.proofs.Files.{script_is_file}
use Rattle.load_scripts.proofs.laws.scripts_are_files.Goals as goal

pub returns : goal.returns
returns c = script_is_file
