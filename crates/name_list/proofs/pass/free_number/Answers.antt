use Rattle.std.proofs.Common.{◌∙◌, ap}
use Rattle.name_list.specs.Ids.{without}
use Rattle.name_list.proofs.Lists.{without-none, above-none}
use Rattle.name_list.proofs.pass.free_number.Goals as goal

pub returns-then-id-above-clause-left : goal.returns-then-id-above-clause-left
returns-then-id-above-clause-left c = ap (λ gone. without gone c.take_out.new.ids.items) c.take_out.ensures.gone ∙ (without-none c.take_out.new.ids.items ∙ c.take_out.ensures.ids)

pub returns-else-id-above-clause-free : goal.returns-else-id-above-clause-free
returns-else-id-above-clause-free c = above-none c.args.id.0 c.args.above c.args.gone.now.items c.if-id-above.false c.requires.below
