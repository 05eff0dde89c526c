use Rattle.std.proofs.Common.{◌∙◌, ap, ◌++◌, ◌∷◌, []}
use Rattle.name_list.specs.Ids.{without}
use Rattle.name_list.proofs.Lists.{without-other}
use Rattle.name_list.proofs.draft.Draft.put.Goals as goal

pub returns : goal.returns
returns c = let freed = c.free_number.new in let says = c.free_number.ensures in
    ap (without freed.gone.items) c.in_ok-push.ensures.items
    ∙ (without-other freed.gone.items c.args.id freed.ids.items says.free ∙ ap (λ ids. ids ++ c.args.id ∷ []) (says.left ∙ c.self.view_is))
