use Rattle.std.proofs.Common.{arith, sym, ap, subst, refl}
use Rattle.merge_round.specs.Halves.{HalfState}
use Rattle.turn_cell.specs.Tokens.{holding_known, waiting_known}
use Rattle.turn_cell.specs.Answers.{TakeFinds}
use Rattle.turn_cell.specs.declared.flusher.Take.{Take}
use Rattle.turn_cell.specs.declared.flusher.Take.TheVariants as take
use Rattle.flush_cells.specs.Cells.{held_weight, taken_weight, count_in}
use Rattle.flush_cells.specs.Passes.{Passes}
use Rattle.flush_cells.specs.declared.tokens.FlushCell.{FlushCell}
use Rattle.flush_cells.specs.declared.tokens.FlushCell.TheVariants as seat
use Rattle.flush_cells.proofs.CellLemmas.{merged_weight, merged_held, with_half_weight}
use Rattle.flush_cells.proofs.one.pass_one.Goals as goal

pub returns-in-NotYet-clause-passes : goal.returns-in-NotYet-clause-passes
returns-in-NotYet-clause-passes c = let p = c.args.parents.now in
    subst (λ (s : FlushCell). Passes c.args.worker p s p (seat.Waiting c.in-NotYet.f)) (sym c.in-Waiting.is)
    (take.NotYet c.in-NotYet.f c.in-NotYet.word, subst (λ (t : Take HalfState). TakeFinds count_in (waiting_known c.in-Waiting.f) t) c.in-NotYet.is c.take.ensures, (refl, refl))

pub returns-in-Left-clause-passes : goal.returns-in-Left-clause-passes
returns-in-Left-clause-passes c = let p = c.args.parents.now in
    subst (λ (s : FlushCell). Passes c.args.worker p s p (seat.Idle c.in-Left.f)) (sym c.in-Waiting.is)
    (take.Left c.in-Left.f, subst (λ (t : Take HalfState). TakeFinds count_in (waiting_known c.in-Waiting.f) t) c.in-Left.is c.take.ensures, (refl, refl))

pub returns-in-Full-clause-passes : goal.returns-in-Full-clause-passes
returns-in-Full-clause-passes c = let p = c.args.parents.now in let q = c.merge_one.new.parents in
    subst (λ (s : FlushCell). Passes c.args.worker p s q c.merge_one.result) (sym c.in-Waiting.is)
    (take.Full c.in-Full.half c.in-Full.f, subst (λ (t : Take HalfState). TakeFinds count_in (waiting_known c.in-Waiting.f) t) c.in-Full.is c.take.ensures, c.merge_one.ensures.merges)

pub returns-in-Full-clause-kept : goal.returns-in-Full-clause-kept
returns-in-Full-clause-kept c = let m = c.merge_one.ensures.merges in let t = c.in-Full.ensures in
    let w = merged_weight c.args.worker c.in-Full.half (holding_known c.in-Full.f) c.args.parents.now c.merge_one.new.parents c.merge_one.result m in
    let h = merged_held c.args.worker c.in-Full.half (holding_known c.in-Full.f) c.args.parents.now c.merge_one.new.parents c.merge_one.result m in
    let k = with_half_weight (waiting_known c.in-Waiting.f) (holding_known c.in-Full.f) c.in-Full.half t.0 t.1 t.4 in
    let most = t.5 in
    (omega (arith, w, h, k), omega (arith, w, most))

pub returns-in-Full-clause-count : goal.returns-in-Full-clause-count
returns-in-Full-clause-count c = let m = c.merge_one.ensures.merges in let t = c.in-Full.ensures in
    let w = merged_weight c.args.worker c.in-Full.half (holding_known c.in-Full.f) c.args.parents.now c.merge_one.new.parents c.merge_one.result m in
    let k = with_half_weight (waiting_known c.in-Waiting.f) (holding_known c.in-Full.f) c.in-Full.half t.0 t.1 t.4 in
    let old = ap taken_weight c.in-Waiting.is in let held = ap held_weight c.in-Waiting.is in let count = c.merge_one.ensures.count in
    omega (arith, w, k, old, held, count)
