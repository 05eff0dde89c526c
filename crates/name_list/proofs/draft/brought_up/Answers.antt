use Rattle.std.proofs.Common.{◌∙◌, ap, sym, arith}
use Rattle.name_list.specs.Ids.{changed_ids}
use Rattle.name_list.proofs.Lists.{ids-push}
use Rattle.name_list.proofs.draft.brought_up.Goals as goal

pub loop-change-preserved : goal.loop-change-preserved
loop-change-preserved c = c.in_ok-change.ensures ∙ (ap (changed_ids c.args.kind _) c.loop-change.invariant
    ∙ sym (ids-push c.args.kind c.args.changes.now c.args.ids.now c.loop-change.change-index _ (omega (arith, c.loop-change-test.true))))
