-- Files that are independent. This project's own.
use Rattle.std.specs.Prelude.{[], ◌∷◌}
use Rattle.ledger.specs.Worked.{plain_plan, increments, gauge_moves}
use Rattle.same_output.specs.Independent.{AreIndependent}

-- two files with two increments of one counter each, and one that moves a gauge
abbrev pub ThreeIndependent : Type 0
ThreeIndependent = AreIndependent plain_plan (increments ∷ increments ∷ gauge_moves ∷ [])
