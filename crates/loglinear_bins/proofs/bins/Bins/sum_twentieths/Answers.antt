use Rattle.std.proofs.Common.{refl, arith, add-one}
use Rattle.loglinear_bins.specs.Counts.{sum_of}
use Rattle.loglinear_bins.proofs.Reading.{shown, sum_start, sum_step, sum_end, sum-listed-drop, mark_of, mark_of-empty}
use Rattle.loglinear_bins.proofs.bins.Bins.sum_twentieths.Goals as goal

pub loop-place-init : goal.loop-place-init
loop-place-init c =
    let shows = shown c.self.inside.counts.items c.self.inside.total c.args.self.now c.self.view_is c.self.invariant.0 in
    let start = sum_start (λ d. d.count) c.self.inside.counts.items c.args.self.now c.self.view_is in
    rw c.deref-n-items.ensures.value (shows, sum_start mark_of c.self.inside.counts.items c.args.self.now c.self.view_is, omega (arith, start, shows.few))

pub loop-place-preserved : goal.loop-place-preserved
loop-place-preserved c =
    let short = c.loop-place-test.true in
    let more = sum_step mark_of mark_of-empty c.loop-place.place c.loop-place.sum (sum_of c.args.self.now) c.deref-n-items.result.now short c.loop-place.invariant.1 in
    let rest = sum-listed-drop (λ d. d.count) (λ _. refl) c.loop-place.place c.deref-n-items.result.now short in
    (c.loop-place.invariant.0, rw c.sum_at-sum.ensures.sum more, rw add-one (omega (arith, rest, c.loop-place.invariant.2, c.sum_at-sum.ensures.bound)))

pub returns : goal.returns
returns c = sum_end mark_of c.loop-place.place c.loop-place.sum (sum_of c.args.self.now) c.deref-n-items.result.now c.loop-place-test.false c.loop-place.invariant.1
