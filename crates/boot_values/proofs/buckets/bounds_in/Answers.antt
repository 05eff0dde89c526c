use Rattle.std.proofs.Common.{◌≡◌, false, ◌==◌, arith}
use Rattle.std.specs.List.{list_any}
use Rattle.std.proofs.lemmas.Grind.{common_steps}
use Rattle.stat_defs.specs.Configs.{IsWholeBound}
use Rattle.boot_values.specs.BucketSettings.{with_bound}
use Rattle.boot_values.proofs.Bounds.{increasing_halves, all_with, rises_with}
use Rattle.boot_values.proofs.buckets.bounds_in.Goals as goal

pub loop-value-preserved : goal.loop-value-preserved
loop-value-preserved c =
    let items = c.in_ok-insert.ensures.items in
    let below = c.count_below-below.ensures in
    let same = c.deref-in-loop-value.ensures.value in
    let put : c.insert.new.self.items ≡ with_bound c.loop-value.found.items c.in_ok-bound.bound = cc in
    let seen = c.deref.ensures.value in
    let new : list_any (λ b. b.halves == c.in_ok-bound.bound.halves) c.loop-value.found.items ≡ false =
    rw (← seen) c.in_ok-bound.ensures.new in (
      grind (arith, common_steps),
      rw put (all_with IsWholeBound c.loop-value.found.items c.in_ok-bound.bound c.loop-value.invariant.1 c.in_ok-bound.ensures.whole),
      rw put (rises_with c.loop-value.found.items c.in_ok-bound.bound new c.loop-value.invariant.2),
      grind (arith, common_steps),
    )

pub returns-clause-rising : goal.returns-clause-rising
returns-clause-rising c = increasing_halves c.loop-value.found.items c.loop-value.invariant.2
