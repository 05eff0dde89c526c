use Rattle.flush_cells.proofs.RoundLemmas.{any_round}
use Rattle.flush_cells.proofs.cells.FlushCells.pass.Goals as goal

pub invariant_of-self : goal.invariant_of-self
invariant_of-self c = let p = c.args.self.now in let each = c.pass_each.ensures in record {
  kept = each.kept;
  round = any_round p.parents c.pass_each.new.parents p.tokens.items c.pass_each.new.seats.items c.pass_each.result each.cells each.passes each.err p.round;
}
