use Rattle.std.proofs.Common.{◌≡◌, ◌+◌, ◌-◌, ◌++◌, ◌<◌, ◌≤◌, ℕ, List, length, replicate, get_or, refl, ap, sym, subst, ◌∙◌, arith, vec_capacity}
use Rattle.std.specs.List.{sum}
use Rattle.std.proofs.lemmas.List.{get_or_default, with_items_is}
use Rattle.loglinear_bins.specs.declared.place.TheConstants.{BIN_COUNT, MAX_COUNT}
use Rattle.loglinear_bins.specs.Counts.{merged}
use Rattle.loglinear_bins.specs.Table.{listed, IsTable, IsOccupied}
use Rattle.loglinear_bins.proofs.Occupied.{wider, written, long_enough, table_filled, part_filled}
use Rattle.loglinear_bins.proofs.Tables.{listed-filled, total-view}
use Rattle.loglinear_bins.proofs.Merging.{merges_start, merges_step, merges_table, merges_end}
use Rattle.loglinear_bins.proofs.bins.Bins.merge.Goals as goal

-- a table has as many values as its counts add up to
itself : (ns : List ℕ) (n : ℕ) → IsTable ns n → IsTable ns (sum ns)
itself ns n is = record { within = is.within; counted = refl; limit = rw is.counted is.limit }

pub loop-place-init : goal.loop-place-init
loop-place-init c =
    let ns = c.self.inside.counts.items in
    let others = c.other.inside.counts.items in
    let past = c.other.inside.to in
    let filled : List ℕ = ns ++ replicate (past - length ns) 0 in
    let mine_total = total-view ns c.self.inside.total c.args.self.now c.self.view_is c.self.invariant.0 in
    let other_total = total-view others c.other.inside.total c.args.other.now c.other.view_is c.other.invariant.0 in
    let table = table_filled past c.self.inside.total ns (omega (arith, c.other.invariant.1.past_within, c.other.invariant.0.within)) c.self.invariant.0 in
    let few : sum filled + sum others ≤ MAX_COUNT = omega (arith, c.requires, mine_total, other_total, table.counted, c.other.invariant.0.counted) in
    let start = merges_start others filled (sum filled) (sum others) c.other.inside.from past (itself filled c.self.inside.total table) (itself others c.other.inside.total c.other.invariant.0) c.other.invariant.1 few in
    rw (c.as_mut_slice-counts.ensures.value, c.as_slice-others.ensures.value, c.fill_to.ensures.items) (start, λ first last part. wider filled first last c.other.inside.from past (long_enough past ns) part)

pub loop-place-preserved : goal.loop-place-preserved
loop-place-preserved c =
    let counts = c.loop-place.counts in
    let others = c.as_slice-others.result.now in
    let place = c.loop-place.place in
    let here = get_or counts place 0 in
    let ns = c.self.inside.counts.items in
    let long : c.other.inside.to ≤ length c.fill_to.new.counts.items = rw c.fill_to.ensures.items (long_enough c.other.inside.to ns) in
    let same_len = ap length c.as_mut_slice-counts.ensures.value in
    let other_len = ap length c.as_slice-others.ensures.value in
    let short : place < length others = omega (arith, c.loop-place-test.true, c.other.invariant.1.past_within, other_len) in
    let mine_short : place < length counts = omega (arith, c.loop-place-test.true, c.loop-place.auto.counts, same_len, long) in (
      merges_step others counts place here _ _ short mine_short (get_or_default counts place 0 here mine_short) c.loop-place.invariant.0,
      λ first past part. written counts _ _ place _ (omega (arith, c.loop-place.auto.place)) (omega (arith, c.loop-place-test.true)) (c.loop-place.invariant.1 first past part),
    )

pub invariant_of-self : goal.invariant_of-self
invariant_of-self c =
    let ns = c.self.inside.counts.items in
    let counts = c.loop-place.counts in
    let from = c.self.inside.from in
    let to = c.self.inside.to in
    let past = c.other.inside.to in
    let same_len = ap length c.as_mut_slice-counts.ensures.value in
    let kept = with_items_is c.fill_to.new.counts counts (omega (arith, c.loop-place.auto.counts, same_len)) in
    let table = table_filled past c.self.inside.total ns (omega (arith, c.other.invariant.1.past_within, c.other.invariant.0.within)) c.self.invariant.0 in
    let mine : sum c.as_mut_slice-counts.result.now ≡ c.self.inside.total = ap sum c.as_mut_slice-counts.ensures.value ∙ ap sum c.fill_to.ensures.items ∙ table.counted in
    let more : sum c.as_slice-others.result.now ≡ c.other.inside.total = ap sum c.as_slice-others.ensures.value ∙ c.other.invariant.0.counted in
    let part : IsOccupied c.as_mut_slice-counts.result.now from to = rw (c.as_mut_slice-counts.ensures.value, c.fill_to.ensures.items) (part_filled past from to ns c.self.invariant.1) in
    let others : IsOccupied c.as_slice-others.result.now c.other.inside.from past = rw c.as_slice-others.ensures.value c.other.invariant.1 in
    subst (λ items. IsTable items (c.self.inside.total + c.other.inside.total) × IsOccupied items c.min-self-inside.result c.max-self-inside.result × (BIN_COUNT ≤ vec_capacity c.fill_to.new.counts)) (sym kept) (
      rw (← mine, ← more) (merges_table c.as_slice-others.result.now counts c.other.inside.from past c.loop-place.place _ _ c.loop-place-test.false others c.loop-place.invariant.0),
      rw (c.min-self-inside.ensures, c.max-self-inside.ensures) (c.loop-place.invariant.1 from to part),
      rw c.fill_to.ensures.room c.self.invariant.2,
    )

pub returns : goal.returns
returns c =
    let ns = c.self.inside.counts.items in
    let counts = c.loop-place.counts in
    let past = c.other.inside.to in
    let same_len = ap length c.as_mut_slice-counts.ensures.value in
    let kept = with_items_is c.fill_to.new.counts counts (omega (arith, c.loop-place.auto.counts, same_len)) in
    let others : IsOccupied c.as_slice-others.result.now c.other.inside.from past = rw c.as_slice-others.ensures.value c.other.invariant.1 in
    let mine : listed 0 c.as_mut_slice-counts.result.now ≡ c.args.self.now =
    ap (listed 0) c.as_mut_slice-counts.ensures.value ∙ ap (listed 0) c.fill_to.ensures.items ∙ (listed-filled 0 (past - length ns) ns ∙ c.self.view_is) in
    let more : listed 0 c.as_slice-others.result.now ≡ c.args.other.now = ap (listed 0) c.as_slice-others.ensures.value ∙ c.other.view_is in
    ap (listed 0) kept
    ∙ merges_end c.as_slice-others.result.now counts c.other.inside.from past c.loop-place.place _ _ c.loop-place-test.false others c.loop-place.invariant.0
    ∙ (ap (λ before. merged before (listed 0 c.as_slice-others.result.now)) mine ∙ ap (merged c.args.self.now) more)
