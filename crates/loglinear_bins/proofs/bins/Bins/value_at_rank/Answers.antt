use Rattle.std.proofs.Common.{ap, sym, ◌∙◌, arith}
use Rattle.loglinear_bins.specs.Counts.{value_at}
use Rattle.loglinear_bins.proofs.Reading.{shown, value_at-here, value_at-later, value_at-none, value_at-end}
use Rattle.loglinear_bins.proofs.bins.Bins.value_at_rank.Goals as goal
use Rattle.loglinear_bins.proofs.bins.Bins.value_at_rank.Goals.{then-n-gt0+else-rest-n, else-n-gt0}

pub loop-place-init : goal.loop-place-init
loop-place-init c =
    rw c.deref-n-items.ensures.value (shown c.self.inside.counts.items c.self.inside.total c.args.self.now c.self.view_is c.self.invariant.0, ap (λ counts. value_at counts c.args.rank) c.self.view_is)

pub returns-then-rest-n : goal.returns-then-rest-n
returns-then-rest-n c =
    rw (c.value_within.ensures, c.bin_at.ensures.bin) (sym (value_at-here c.loop-place.place c.loop-place.rest c.deref-n-items.result.now c.loop-place-test.true c.if-n-gt0.true c.if-rest-n.true) ∙ c.loop-place.invariant.1)

pub loop-place-preserved : goal.loop-place-preserved
loop-place-preserved c = elim c.if-n-gt0.branch [
  | then-n-gt0+else-rest-n w ↦ (c.loop-place.invariant.0, rw w.rest-is (sym (value_at-later c.loop-place.place c.loop-place.rest c.deref-n-items.result.now c.loop-place-test.true w.if-n-gt0.true w.if-rest-n.false) ∙ c.loop-place.invariant.1))
  | else-n-gt0 w ↦ (c.loop-place.invariant.0, rw w.rest-is (sym (value_at-none c.loop-place.place c.loop-place.rest c.deref-n-items.result.now c.loop-place-test.true (omega (arith, w.if-n-gt0.false))) ∙ c.loop-place.invariant.1))
]

pub returns : goal.returns
returns c = sym (value_at-end c.loop-place.place c.loop-place.rest c.deref-n-items.result.now c.loop-place-test.false) ∙ c.loop-place.invariant.1
