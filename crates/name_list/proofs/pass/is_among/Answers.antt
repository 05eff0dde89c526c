use Rattle.name_list.proofs.Lists.{found-is}
use Rattle.name_list.proofs.pass.is_among.Goals as goal
use Rattle.std.proofs.Common.{◌∙◌}

pub returns : goal.returns
returns c = c.is_ok.ensures.value ∙ found-is c.args.gone.now c.args.id.0 c.binary_search.result c.requires c.binary_search.ensures.position
