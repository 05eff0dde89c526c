use Rattle.std.proofs.Common.{◌≡◌}
use Rattle.load_run.specs.Files.{script_files}
use Rattle.load_run.proofs.running.files_of.Given as goal

abbrev pub invariant-loop-at : goal.invariant-loop-at
invariant-loop-at l = l.files.items ≡ script_files l.at l.events
