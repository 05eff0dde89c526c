use Rattle.std.proofs.Common.{arith}
use Rattle.loglinear_bins.specs.Counts.{count_at_most}
use Rattle.loglinear_bins.proofs.Reading.{shown, sum_start, sum_step, sum_within, sum_end, share_at, share_at-empty, count_at_most-le}
use Rattle.loglinear_bins.proofs.bins.Bins.at_most.Goals as goal

pub loop-place-init : goal.loop-place-init
loop-place-init c =
    let items = c.deref-n-items.ensures.value in
    rw items (shown c.self.inside.counts.items c.self.inside.total c.args.self.now c.self.view_is c.self.invariant.0, sum_start (share_at c.args.bound.halves) c.self.inside.counts.items c.args.self.now c.self.view_is)

pub overflow_add-sum : goal.overflow_add-sum
overflow_add-sum c =
    let halves = c.args.bound.halves in
    let part = sum_within (share_at halves) (share_at-empty halves) c.loop-place.place c.loop-place.sum (count_at_most c.args.self.now halves) c.deref-n-items.result.now c.loop-place-test.true c.loop-place.invariant.1 in
    rw c.count_at_bound-sum.ensures (omega (arith, part, count_at_most-le halves c.args.self.now, c.loop-place.invariant.0.few))

pub loop-place-preserved : goal.loop-place-preserved
loop-place-preserved c =
    let halves = c.args.bound.halves in
    rw c.count_at_bound-sum.ensures (c.loop-place.invariant.0, sum_step (share_at halves) (share_at-empty halves) c.loop-place.place c.loop-place.sum (count_at_most c.args.self.now halves) c.deref-n-items.result.now c.loop-place-test.true c.loop-place.invariant.1)

pub returns : goal.returns
returns c = sum_end (share_at c.args.bound.halves) c.loop-place.place c.loop-place.sum (count_at_most c.args.self.now c.args.bound.halves) c.deref-n-items.result.now c.loop-place-test.false c.loop-place.invariant.1
