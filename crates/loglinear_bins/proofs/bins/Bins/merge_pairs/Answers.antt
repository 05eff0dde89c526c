use Rattle.std.proofs.Common.{sym, ap, ◌∙◌, arith, pos}
use Rattle.stat_defs.specs.declared.bins.BinCount.{BinCount}
use Rattle.loglinear_bins.specs.Counts.{merged}
use Rattle.std.proofs.Math.ListN.{drop_of_length-le}
use Rattle.loglinear_bins.proofs.Adding.{lawful-drop, total-step, merged-step}
use Rattle.loglinear_bins.proofs.bins.Bins.merge_pairs.Goals as goal

pub loop-pair-preserved : goal.loop-pair-preserved
loop-pair-preserved c =
    let short = c.loop-pair-test.true in
    let none : BinCount = record { bin = record { val = 0; exp = pos 0 }; count = 0 } in
    rw c.add.ensures (lawful-drop c.args.pairs.now c.loop-pair.pair-index none short c.loop-pair.invariant.0, omega (arith, total-step c.loop-pair.self c.args.pairs.now c.loop-pair.pair-index none short, c.loop-pair.invariant.1), merged-step c.loop-pair.self c.args.pairs.now c.loop-pair.pair-index none short ∙ c.loop-pair.invariant.2)

pub returns : goal.returns
returns c =
    sym (ap (merged c.loop-pair.self) (drop_of_length-le c.args.pairs.now c.loop-pair-test.false)) ∙ c.loop-pair.invariant.2
