use Rattle.std.proofs.Common.{List, ap, subst}
use Rattle.std.proofs.lemmas.Result.{IfOk-weaker}
use Rattle.merge_round.specs.Halves.{bins_by}
use Rattle.merge_round.specs.Rounds.{ParentsState, worker_values, ArePartsOf}
use Rattle.flush_cells.specs.declared.tokens.FlushCell.{FlushCell}
use Rattle.cells_end.specs.Ends.{EndsEach}
use Rattle.cells_end.specs.LastRound.{IsLastRound}
use Rattle.cells_end.proofs.RoundLemmas.{last_round}
use Rattle.cells_end.proofs.all.end_cells.Goals as goal

pub returns : goal.returns
returns c =
    let cells = c.args.cells in let ends = c.args.ends.items in let parted = c.into_parts-tokens.ensures.parts in let given = c.into_parts-tokens.result in let q = c.end_each.new.parents in
    let each : EndsEach 1 cells.tokens.items ends cells.parents q = subst (λ (p : ParentsState). EndsEach 1 cells.tokens.items ends p q) parted.1
    (subst (λ (l : List FlushCell). EndsEach 1 l ends given.1 q) (ap (λ v. v.items) parted.0) c.in_ok-end_each.ensures) in
    IfOk-weaker c.new_round.result (λ list. ArePartsOf (λ worker. bins_by (worker_values worker q.round)) list.items) (λ list. IsLastRound cells.tokens.items cells.parents ends list.items)
    (λ list listed. last_round cells.tokens.items ends cells.parents q list.items c.requires cells.round each listed) c.new_round.ensures.listed
