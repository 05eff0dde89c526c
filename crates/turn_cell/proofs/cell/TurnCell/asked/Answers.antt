use Rattle.std.proofs.Common.{rules}
use Rattle.turn_cell.proofs.Keeps.{worker-load-allowed}
use Rattle.turn_cell.proofs.cell.TurnCell.asked.Goals as goal

pub load-word-requires : goal.load-word-requires
load-word-requires g c = let w = c.args.w.now in (search rules, search rules, worker-load-allowed g.H.Weighed.weighs _ _ w.seat.me w.alone.0 w.alone.1 w.stage)
