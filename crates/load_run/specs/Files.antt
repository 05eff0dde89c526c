-- The scripts as workers are given them. This project's own.
use Rattle.std.specs.Prelude.{ℕ, List, map}
use Rattle.std.specs.List.{range_with_len}
use Rattle.load_scripts.specs.Load.{script_text}
use Rattle.worker_run.specs.declared.given.Given.{Given}
use Rattle.worker_run.specs.declared.given.Given.TheVariants.{Opened}

-- a source for each of so many scripts of so many events; they are numbered from 1
abbrev pub script_files : ℕ → ℕ → List (Given (List ℕ))
script_files count n = map (λ script. Opened (script_text script n)) (range_with_len 1 count)
