use Rattle.std.proofs.Common.{◌≡◌, ◌-◌, ◌++◌, length, replicate, ap, ◌∙◌, arith}
use Rattle.loglinear_bins.proofs.bins.fill_to.Goals as goal

pub returns-clause-items : goal.returns-clause-items
returns-clause-items c =
    let past : c.loop.counter - length c.args.counts.now.items ≡ c.args.len - length c.args.counts.now.items
    = omega (arith, c.loop-test.false, c.loop.auto.counter, c.loop.invariant.1, c.len-counter.ensures) in
    c.loop.invariant.0 ∙ ap (λ k. c.args.counts.now.items ++ replicate k 0) past
