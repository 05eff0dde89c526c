use Rattle.std.proofs.Common.{ap}
use Rattle.merge_round.specs.Halves.{HalfState}
use Rattle.turn_cell.specs.declared.limits.TheConstants.{MAX_TURNED}
use Rattle.turn_cell.specs.Tokens.{TurnKnown, worker_known}
use Rattle.half_side.proofs.SideLemmas.{turned_few}
use Rattle.half_side.proofs.side.HalfSide.turn_if_asked.Goals as goal

pub invariant_of-self-2 : goal.invariant_of-self-2
invariant_of-self-2 c =
    turned_few MAX_TURNED (worker_known c.self.inside.cell).halves (worker_known c.asked.new.w).halves (worker_known c.turn-spare.new.w).halves
    c.self.inside.half c.replace-full.result c.turn-spare.result
    (ap (λ (k : TurnKnown HalfState). k.halves) c.asked.ensures.load.1) c.replace-full.ensures.value
    (ap (λ (k : TurnKnown HalfState). k.halves) c.turn-spare.ensures.turned) c.turn-spare.ensures.spare c.self.invariant
