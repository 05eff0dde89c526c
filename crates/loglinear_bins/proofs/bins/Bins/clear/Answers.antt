use Rattle.std.proofs.Common.{◌≤◌, length, ap, sym, subst, ◌∙◌, arith, vec_capacity}
use Rattle.std.proofs.lemmas.List.{with_items_is}
use Rattle.loglinear_bins.specs.declared.place.TheConstants.{BIN_COUNT}
use Rattle.loglinear_bins.specs.Table.{listed, IsTable, IsOccupied}
use Rattle.loglinear_bins.proofs.Occupied.{clears_start, clears_step, cleared_table, cleared_view}
use Rattle.loglinear_bins.proofs.bins.Bins.clear.Goals as goal

pub loop-place-init : goal.loop-place-init
loop-place-init c =
    let start = clears_start c.self.inside.counts.items c.self.inside.from c.self.inside.to c.self.invariant.0.within c.self.invariant.1 in
    rw c.as_mut_slice-counts.ensures.value start

pub loop-place-preserved : goal.loop-place-preserved
loop-place-preserved c = clears_step c.loop-place.counts c.loop-place.place c.self.inside.to c.loop-place-test.true c.loop-place.invariant

pub invariant_of-self : goal.invariant_of-self
invariant_of-self c =
    let counts = c.loop-place.counts in
    let same_len = ap length c.as_mut_slice-counts.ensures.value in
    let kept = with_items_is c.self.inside.counts counts (omega (arith, c.loop-place.auto.counts, same_len)) in
    let cleared = cleared_table counts c.loop-place.place c.self.inside.to c.loop-place-test.false c.loop-place.invariant in
    subst (λ items. IsTable items 0 × IsOccupied items BIN_COUNT 0 × (BIN_COUNT ≤ vec_capacity c.self.inside.counts)) (sym kept) (cleared.0, cleared.1, c.self.invariant.2)

pub returns : goal.returns
returns c =
    let counts = c.loop-place.counts in
    let same_len = ap length c.as_mut_slice-counts.ensures.value in
    let kept = with_items_is c.self.inside.counts counts (omega (arith, c.loop-place.auto.counts, same_len)) in
    ap (listed 0) kept ∙ cleared_view counts c.loop-place.place c.self.inside.to c.loop-place-test.false c.loop-place.invariant
