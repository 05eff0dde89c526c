use Rattle.std.proofs.Common.{◌∙◌, ap, ◌++◌, ◌∷◌, [], Some}
use Rattle.turn_cell.proofs.Ends.{opens}
use Rattle.turn_cell.proofs.cell.TurnCell.new.Goals as goal

pub new-requires : goal.new-requires
new-requires g c = opens g.H.Weighed.weighs c.args.spare _ c.requires (c.push_reserved.ensures.items ∙ ap (λ l. l ++ Some c.args.spare ∷ []) c.in_ok-slots.ensures.items)
