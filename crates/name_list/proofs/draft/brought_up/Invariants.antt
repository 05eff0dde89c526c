use Rattle.std.proofs.Common.{◌≡◌, take}
use Rattle.name_list.specs.Ids.{ids_from}
use Rattle.name_list.proofs.draft.brought_up.Given as goal

abbrev pub invariant-loop-change : goal.invariant-loop-change
invariant-loop-change l = l.draft ≡ ids_from l.kind (take l.change-index l.changes) l.ids
