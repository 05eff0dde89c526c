use Rattle.std.proofs.Common.{[], ◌∷◌, arith}
use Rattle.std.proofs.lemmas.Grind.{common_steps}
use Rattle.std.proofs.lemmas.List.Elements.{All-append, All-cons, All-nil}
use Rattle.boot_file.specs.Lawful.{IsPlacedTag}
use Rattle.boot_file.proofs.tags.tags_in.Goals as goal

pub loop-i-preserved : goal.loop-i-preserved
loop-i-preserved c =
    let tag = c.in_ok-tag.tag in (
      grind (arith, common_steps),
      rw c.in_ok-push.ensures.items (All-append IsPlacedTag c.loop-i.found.items (tag ∷ []) c.loop-i.invariant.1
          (All-cons IsPlacedTag tag [] c.in_ok-tag.ensures.lawful (All-nil IsPlacedTag))),
      grind (arith, common_steps),
    )
