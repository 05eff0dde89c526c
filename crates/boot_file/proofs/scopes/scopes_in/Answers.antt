use Rattle.std.proofs.Common.{◌≡◌, [], ◌∷◌, ◌++◌, false, refl, arith}
use Rattle.std.proofs.lemmas.Grind.{common_steps}
use Rattle.std.proofs.lemmas.List.Elements.{All-append, All-cons, All-nil}
use Rattle.stat_defs.specs.Configs.{IsScopeSpec}
use Rattle.boot_file.specs.Scopes.{is_taken}
use Rattle.boot_file.proofs.Labels.{different}
use Rattle.boot_file.proofs.scopes.scopes_in.Goals as goal

pub loop-i-preserved : goal.loop-i-preserved
loop-i-preserved c =
    let found = c.loop-i.found.items in
    let scope = c.in_ok-scope.scope in
    let pushed = c.in_ok-push-2.ensures.items in
    let seen = c.deref.ensures.value in
    let new : is_taken c.loop-i.found.items c.in_ok-scope.scope.label ≡ false = rw (← seen) c.in_ok-scope.ensures.new in (
      grind (arith, common_steps),
      (c.loop-i.invariant.1.0 ++ scope ∷ [], rw (pushed, c.loop-i.invariant.1.1) refl),
      rw pushed (All-append IsScopeSpec found (scope ∷ []) c.loop-i.invariant.2
          (All-cons IsScopeSpec scope [] c.in_ok-scope.ensures.lawful (All-nil IsScopeSpec))),
      rw pushed (different found scope new c.loop-i.invariant.3),
      grind (arith, common_steps),
    )
