use Rattle.std.proofs.Common.{refl, arith}
use Rattle.run_gates.proofs.PacketSizes.{single, shared, greatest, at_end}
use Rattle.run_gates.proofs.pace.bits_for.Goals as goal

pub loop-next-init : goal.loop-next-init
loop-next-init c = record { last = refl; shared = single c.args.workers c.args.every }

pub returns-then-not-fits-clause-shared : goal.returns-then-not-fits-clause-shared
returns-then-not-fits-clause-shared c = c.loop-next.invariant.shared

pub returns-then-not-fits-clause-greatest : goal.returns-then-not-fits-clause-greatest
returns-then-not-fits-clause-greatest c =
    greatest c.args.workers c.args.every c.loop-next.bits c.loop-next.next c.fits.result
    c.loop-next.invariant.last c.loop-next-test.true c.if-not-fits.true c.fits.ensures.1

pub loop-next-preserved : goal.loop-next-preserved
loop-next-preserved c = record { last = refl; shared = shared c.args.workers c.args.every c.loop-next.next (c.fits.ensures.0 c.if-not-fits.false) }

pub returns-clause-shared : goal.returns-clause-shared
returns-clause-shared c = c.loop-next.invariant.shared

pub returns-clause-greatest : goal.returns-clause-greatest
returns-clause-greatest c =
    let past = c.loop-next-test.false in
    let last = c.loop-next.invariant.last in
    let low = c.loop-next.auto.next-end in
    at_end c.args.workers c.args.every c.loop-next.bits (omega (arith, past, last, low))
