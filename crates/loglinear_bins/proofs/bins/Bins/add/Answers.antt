use Rattle.loglinear_bins.proofs.Occupied.{wider, written, long_enough, table_filled, part_filled}
use Rattle.std.proofs.Common.{◌+◌, ◌-◌, ◌++◌, ◌<◌, ℕ, List, length, replicate, ap, ◌∙◌, arith}
use Rattle.loglinear_bins.specs.Counts.{added}
use Rattle.loglinear_bins.proofs.Tables.{IsTable-set, listed-added, listed-filled, total-view}
use Rattle.loglinear_bins.proofs.bins.Bins.add.Goals as goal

pub invariant_of-self : goal.invariant_of-self
invariant_of-self c =
    let place = c.place_of-place.result in
    let bound = c.place_of-place.ensures.bound in
    let ns = c.self.inside.counts.items in
    let filled : List ℕ = ns ++ replicate (place + 1 - length ns) 0 in
    let total = total-view ns c.self.inside.total c.args.self.now c.self.view_is c.self.invariant.0 in
    let short : place < length filled = omega (arith, long_enough (place + 1) ns) in
    let wide = wider filled c.self.inside.from c.self.inside.to place (place + 1) (long_enough (place + 1) ns) (part_filled (place + 1) c.self.inside.from c.self.inside.to ns c.self.invariant.1) in
    let here = c.index_mut.result.now in (
      rw c.fill_to.ensures.items (IsTable-set filled c.self.inside.total place here c.args.n (table_filled (place + 1) c.self.inside.total ns (omega (arith, bound)) c.self.invariant.0) short (rw c.fill_to.ensures.items at c.index_mut.ensures.value) (omega (arith, c.requires.room, total))),
      rw (c.fill_to.ensures.items, c.min-self-inside.ensures, c.max-self-inside.ensures) (written filled _ _ place (here + c.args.n) (omega arith) (omega arith) wide),
      rw c.fill_to.ensures.room c.self.invariant.2,
    )

pub returns : goal.returns
returns c =
    let place = c.place_of-place.result in
    let ns = c.self.inside.counts.items in
    let filled : List ℕ = ns ++ replicate (place + 1 - length ns) 0 in
    let short : place < length filled = omega (arith, long_enough (place + 1) ns) in
    rw c.fill_to.ensures.items (
    listed-added filled c.args.bin place c.index_mut.result.now c.args.n short (rw c.fill_to.ensures.items at c.index_mut.ensures.value) c.place_of-place.ensures.place c.requires.lawful
    ∙ ap (λ counts. added counts c.args.bin c.args.n) (listed-filled 0 (place + 1 - length ns) ns ∙ c.self.view_is)
    )
