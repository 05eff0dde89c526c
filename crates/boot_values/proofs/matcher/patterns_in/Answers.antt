use Rattle.std.proofs.Common.{[], ◌∷◌, arith}
use Rattle.std.proofs.lemmas.Grind.{common_steps}
use Rattle.std.proofs.lemmas.List.Elements.{All-append, All-cons, All-nil}
use Rattle.stat_defs.specs.Configs.{IsPatternText, text_of}
use Rattle.boot_values.proofs.matcher.patterns_in.Goals as goal

pub loop-i-preserved : goal.loop-i-preserved
loop-i-preserved c =
    let pattern = c.in_ok-pattern.pattern in (
      grind (arith, common_steps),
      rw c.in_ok-push.ensures.items (All-append (λ p. IsPatternText (text_of p)) c.loop-i.found.items (pattern ∷ []) c.loop-i.invariant.1
          (All-cons (λ p. IsPatternText (text_of p)) pattern [] c.in_ok-pattern.ensures.lawful (All-nil (λ p. IsPatternText (text_of p))))),
      grind (arith, common_steps),
    )
