use Rattle.std.proofs.Common.{rules}
use Rattle.turn_cell.proofs.Keeps.{request-allowed}
use Rattle.turn_cell.proofs.cell.TurnCell.request.Goals as goal

pub compare_exchange-requires : goal.compare_exchange-requires
compare_exchange-requires g c = let f = c.args.f in (search rules, search rules, request-allowed g.H.Weighed.weighs _ _ f.seat.me f.alone.0 f.alone.1 f.stage)
