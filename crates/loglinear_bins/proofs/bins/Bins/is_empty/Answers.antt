use Rattle.std.proofs.Common.{ap, sym, ◌∙◌}
use Rattle.std.proofs.lemmas.Bool.{eq-eqb, eqb-true}
use Rattle.loglinear_bins.specs.Counts.{total}
use Rattle.loglinear_bins.proofs.Occupied.{empty_view}
use Rattle.loglinear_bins.proofs.Tables.{total-view}
use Rattle.loglinear_bins.proofs.bins.Bins.is_empty.Goals as goal

pub returns : goal.returns
returns c =
    let table = c.self.invariant.0 in (
      λ none. empty_view c.self.inside.counts.items c.self.inside.total c.args.self.now c.self.view_is table (eqb-true _ _ none),
      λ none. eq-eqb _ _ (sym (total-view c.self.inside.counts.items c.self.inside.total c.args.self.now c.self.view_is table) ∙ ap total none),
    )
