use Rattle.std.proofs.Common.{rules}
use Rattle.turn_cell.proofs.Ends.{splits}
use Rattle.turn_cell.proofs.making.deal.Goals as goal

pub split_seat-first-requires : goal.split_seat-first-requires
split_seat-first-requires g c = (search rules, search rules, splits g.H.Weighed.weighs _ _)
