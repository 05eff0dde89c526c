use Rattle.std.proofs.Common.{◌∙◌, ap}
use Rattle.name_list.specs.Ids.{without}
use Rattle.name_list.proofs.Lists.{without-none}
use Rattle.name_list.proofs.draft.Draft.of.Goals as goal

pub returns : goal.returns
returns c = ap (λ gone. without gone c.in_ok-ids.ids.items) c.new-gone.ensures.items ∙ (without-none c.in_ok-ids.ids.items ∙ c.in_ok-ids.ensures.items)
