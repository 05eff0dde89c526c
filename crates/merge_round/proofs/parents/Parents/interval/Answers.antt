use Rattle.std.proofs.Common.{◌≡◌, IfOk, ap, subst, ◌∙◌}
use Rattle.merge_round.specs.Halves.{bins_by}
use Rattle.merge_round.specs.Rounds.{round_values}
use Rattle.merge_round.proofs.parents.Parents.interval.Goals as goal

pub returns : goal.returns
returns c = subst (λ bins. IfOk c.pairs.result (λ list. list ≡ bins c.args.id.0)) (c.self.invariant.interval.are ∙ ap (λ p. bins_by (round_values p.round)) c.self.view_is) c.pairs.ensures
