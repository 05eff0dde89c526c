use Rattle.std.proofs.Common.{ap, ◌∙◌}
use Rattle.loglinear_bins.specs.Counts.{merged}
use Rattle.loglinear_bins.proofs.Restored.{merged-IsBinList}
use Rattle.loglinear_bins.proofs.bins.Bins.of_pairs.Goals as goal

pub returns-clause-same : goal.returns-clause-same
returns-clause-same c = λ is.
    c.merge_pairs.ensures
    ∙ ap (λ bins. merged bins c.args.pairs.now) c.in_ok-bins.ensures
    ∙ merged-IsBinList c.args.pairs.now is
