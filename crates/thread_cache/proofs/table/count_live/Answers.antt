use Rattle.std.proofs.Common.{◌∙◌, ◌+◌, ◌<◌, ◌≤◌, Bool, ap, sym, cond, filter, length, take, arith, subst}
use Rattle.std.proofs.lemmas.List.{length-map, take_all}
use Rattle.thread_cache.specs.declared.key.CacheKey.{CacheKey}
use Rattle.thread_cache.specs.declared.table.Slot.{Slot}
use Rattle.thread_cache.specs.Scopes.{is_live}
use Rattle.thread_cache.specs.Held.{held_of}
use Rattle.thread_cache.proofs.Counting.{one_on}
use Rattle.thread_cache.proofs.table.count_live.Goals.{then-is_live_at, else-is_live_at}
use Rattle.thread_cache.proofs.table.count_live.Goals as goal

pub loop-at-preserved : goal.loop-at-preserved
loop-at-preserved c =
    let p : CacheKey × Slot → Bool = λ e. is_live c.args.scopes.now.entries e.1.scope in
    let within = subst (λ n. c.loop-at.at < n) c.len-at-end.ensures.len c.loop-at-test.true in
    let next = one_on p c.args.table.now.entries c.loop-at.at c.is_live_at.result within c.is_live_at.ensures in
    elim c.if-is_live_at.branch [
      | then-is_live_at w ↦ (
        w.count-is ∙ (ap (λ n. n + 1) c.loop-at.invariant.0 ∙ sym (next ∙ ap (λ b. length (filter p (take c.loop-at.at c.args.table.now.entries)) + cond b 1 0) w.if-is_live_at.true)),
        omega (arith, w.count-is, c.loop-at.invariant.1),
      )
      | else-is_live_at w ↦ (
        w.count-is ∙ (c.loop-at.invariant.0 ∙ omega (arith, next ∙ ap (λ b. length (filter p (take c.loop-at.at c.args.table.now.entries)) + cond b 1 0) w.if-is_live_at.false)),
        omega (arith, w.count-is, c.loop-at.invariant.1),
      )
    ]

pub returns : goal.returns
returns c =
    let p : CacheKey × Slot → Bool = λ e. is_live c.args.scopes.now.entries e.1.scope in
    let all = subst (λ n. n ≤ c.loop-at.at) c.len-at-end.ensures.len c.loop-at-test.false in
    c.loop-at.invariant.0 ∙ (ap (λ es. length (filter p es)) (take_all c.loop-at.at c.args.table.now.entries all)
    ∙ sym (length-map (filter p c.args.table.now.entries) held_of))
