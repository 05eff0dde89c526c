use Rattle.std.proofs.Common.{rules}
use Rattle.turn_cell.proofs.Keeps.{leave-allowed}
use Rattle.turn_cell.proofs.cell.TurnCell.leave.Goals as goal

pub fetch_add-requires : goal.fetch_add-requires
fetch_add-requires g c = let w = c.args.w in (search rules, search rules, leave-allowed g.H.Weighed.weighs _ _ w.seat.me w.alone.0 w.alone.1 w.stage)
