use Rattle.std.proofs.Common.{◌∙◌, ap, arith}
use Rattle.loglinear_bins.specs.Counts.{merged, total}
use Rattle.flush_view.proofs.sums.joined.Goals as goal

pub merge_pairs-requires-clause-room : goal.merge_pairs-requires-clause-room
merge_pairs-requires-clause-room c =
    let few = c.requires.few in
    let same = ap total c.in_ok-bins.ensures in
    omega (arith, few, same)

pub returns : goal.returns
returns c = c.merge_pairs.ensures ∙ ap (λ bins. merged bins c.args.more.now) c.in_ok-bins.ensures
