use Rattle.std.proofs.Common.{[], ◌∷◌, arith}
use Rattle.std.proofs.lemmas.Grind.{common_steps}
use Rattle.std.proofs.lemmas.List.Elements.{All-append, All-cons, All-nil}
use Rattle.stat_defs.specs.Configs.{IsBucketSpec}
use Rattle.boot_values.proofs.buckets.settings_in.Goals as goal

pub loop-i-preserved : goal.loop-i-preserved
loop-i-preserved c =
    let setting = c.in_ok-setting.setting in (
      grind (arith, common_steps),
      rw c.in_ok-push.ensures.items (All-append IsBucketSpec c.loop-i.found.items (setting ∷ []) c.loop-i.invariant.1
          (All-cons IsBucketSpec setting [] c.in_ok-setting.ensures.lawful (All-nil IsBucketSpec))),
      grind (arith, common_steps),
    )
