use Rattle.std.proofs.Common.{◌∙◌, ap, not, filter, ◌==◌}
use Rattle.name_list.specs.Ids.{without}
use Rattle.name_list.proofs.Lists.{without-push}
use Rattle.name_list.proofs.draft.Draft.take.Goals as goal

pub returns : goal.returns
returns c = ap (λ gone. without gone c.self.inside.ids.items) c.in_ok-push.ensures.items ∙ (without-push c.self.inside.gone.items c.args.id.0 c.self.inside.ids.items ∙ ap (filter (λ x. not (x.0 == c.args.id.0))) c.self.view_is)
