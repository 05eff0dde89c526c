use Rattle.std.proofs.Common.{All, take}
use Rattle.flush_cells.specs.Cells.{IsNotHolding}
use Rattle.flush_cells.proofs.passing.is_short.Given as goal

abbrev pub invariant-loop-seat : goal.invariant-loop-seat
invariant-loop-seat l = All IsNotHolding (take l.seat-index l.seats)
