use Rattle.std.proofs.Common.{List, ap, sym, subst, ◌∙◌}
use Rattle.flush_cells.specs.declared.tokens.FlushCell.{FlushCell}
use Rattle.flush_cells.specs.Cells.{merged_count, AreKept}
use Rattle.flush_cells.proofs.RoundLemmas.{still_round}
use Rattle.flush_cells.proofs.cells.FlushCells.ask.Goals as goal

pub invariant_of-self : goal.invariant_of-self
invariant_of-self c = let count = merged_count c.args.self.now.parents in record {
  kept = c.ask_into.ensures.kept count (subst (λ (l : List FlushCell). AreKept count l) (sym (ap (λ v. v.items) c.replace-tokens.ensures.value)) c.args.self.now.kept);
  round = still_round c.args.self.now.parents c.args.self.now.tokens.items c.ask_into.new.asked.items (c.ask_into.ensures.cells ∙ c.requires.cells) c.args.self.now.round;
}
