use Rattle.std.proofs.Common.{◌≡◌, IfOk, ap, subst, ◌∙◌}
use Rattle.merge_round.specs.Halves.{bins_by}
use Rattle.merge_round.specs.Rounds.{all_values}
use Rattle.merge_round.proofs.parents.Parents.cumulative.Goals as goal

pub returns : goal.returns
returns c = subst (λ bins. IfOk c.pairs.result (λ list. list ≡ bins c.args.id.0)) (c.self.invariant.cumulative.are ∙ ap (λ p. bins_by (all_values p.all)) c.self.view_is) c.pairs.ensures
