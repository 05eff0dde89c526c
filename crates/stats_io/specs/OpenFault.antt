-- The texts of the faults of openings. This project's own.
use Rattle.std.specs.Prelude.{ℕ, List, codes}
use Rattle.stats_io.specs.declared.shelf.OpenFault.{OpenFault}
use Rattle.stats_io.specs.declared.shelf.OpenFault.TheVariants.{Failed, NoMemory}

abbrev pub open_fault_text : OpenFault → List ℕ
open_fault_text Failed = codes "not opened"
open_fault_text NoMemory = codes "out of memory"
