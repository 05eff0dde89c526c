use Rattle.std.proofs.Common.{◌++◌, ◌∙◌, ap, sym}
use Rattle.tag_rules.proofs.KeptWhole.{left_same}
use Rattle.tag_rules.proofs.tag_rules.left_of.Goals as goal

pub loop-i-preserved-then-is_removed : goal.loop-i-preserved-then-is_removed
loop-i-preserved-then-is_removed c =
    ap (λ bytes. c.loop-i.left.items ++ bytes)
    (sym (left_same c.args.found.now c.args.name.now c.loop-i.i c.loop-i-test.true (sym c.is_removed.ensures ∙ c.if-is_removed.true)))
    ∙ c.loop-i.invariant
