use Rattle.std.proofs.Common.{◌<◌, ◌≤◌, subst, sym, inl, inr, true≢false, ◌∙◌, ap}
use Rattle.std.proofs.lemmas.List.{drop_all}
use Rattle.thread_cache.specs.Scopes.{is_live}
use Rattle.thread_cache.proofs.ScopeLemmas.{least_with}
use Rattle.thread_cache.proofs.scopes.least_live.Goals as goal

pub loop-at-init : goal.loop-at-init
loop-at-init c s live = inr live

pub loop-at-preserved : goal.loop-at-preserved
loop-at-preserved c =
    let within = subst (λ n. c.loop-at.at < n) c.len-at-end.ensures.len c.loop-at-test.true in
    rw c.min-least.ensures (least_with c.loop-at.least c.live_number_at.result c.loop-at.at c.args.scopes.now.entries within c.live_number_at.ensures c.loop-at.invariant)

pub returns : goal.returns
returns c s live =
    let all = subst (λ n. n ≤ c.loop-at.at) c.len-at-end.ensures.len c.loop-at-test.false in
    elim (c.loop-at.invariant s live) [
      | inl low ↦ low
      | inr rest ↦ absurd (true≢false (sym rest ∙ ap (λ es. is_live es s) (drop_all c.loop-at.at c.args.scopes.now.entries all)))
    ]
