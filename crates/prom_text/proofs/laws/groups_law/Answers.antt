use Rattle.prom_text.proofs.GroupOrder.{group_is_whole, groups_rise, groups_have_all}
use Rattle.prom_text.proofs.laws.groups_law.Goals as goal

pub returns : goal.returns
returns c = record { whole = group_is_whole; rising = groups_rise; all = groups_have_all }
