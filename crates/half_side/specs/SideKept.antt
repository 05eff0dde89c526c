-- What a side keeps.
use Rattle.std.specs.Prelude.{◌≤◌}
use Rattle.turn_cell.specs.declared.limits.TheConstants.{MAX_TURNED}
use Rattle.turn_cell.specs.Tokens.{worker_known}
use Rattle.half_side.specs.declared.side.HalfSide.TheInside.{Inside}
use Rattle.half_side.specs.Halves.{HalfKnown, value_count}

abbrev pub shown : Inside → HalfKnown
shown s = record { cell = worker_known s.cell; active = s.half }

-- a cell takes no more values
abbrev pub IsKept : Inside → Type 0
IsKept s = value_count (shown s) ≤ MAX_TURNED
