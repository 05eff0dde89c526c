use Rattle.std.proofs.Common.{rules, ◌∙◌, sym, ap, All, subst, map, List, ◌++◌, ◌∷◌, []}
use Rattle.std.specs.Vec.Iter.{into_iter_items}
use Rattle.turn_cell.specs.Tokens.{cell_id}
use Rattle.flush_cells.specs.declared.tokens.FlushCell.{FlushCell}
use Rattle.flush_cells.specs.Cells.{cell_of, held_weight, taken_weight, IsCellKept}
use Rattle.flush_cells.specs.Asks.{AsksEach}
use Rattle.flush_cells.proofs.ListLemmas.{taken_one, here, place, all_more, map_same, asks_more, longer, same_sum}
use Rattle.flush_cells.proofs.asking.ask_into.Goals as goal

pub ask_one-requires : goal.ask_one-requires
ask_one-requires c = let i = c.loop-seat.invariant in let seat = c.in-Some.seat in let rest = into_iter_items c.next.new.self in record {
  cell = place cell_id cell_of c.args.cells.now c.args.seats.items c.loop-seat.yielded rest seat c.len.result c.index-cells-len.result c.index-cells-len.result c.requires.cells
      (taken_one c.args.seats.items c.loop-seat.yielded _ rest seat i.0 c.in-Some.ensures.steps.0) (c.len.ensures ∙ i.6) c.index-cells-len.is;
}

pub loop-seat-preserved : goal.loop-seat-preserved
loop-seat-preserved c =
    let i = c.loop-seat.invariant in let seat = c.in-Some.seat in let rest = into_iter_items c.next.new.self in let push = c.push_reserved.ensures.items in
    let one = c.ask_one.ensures in let all = taken_one c.args.seats.items c.loop-seat.yielded _ rest seat i.0 c.in-Some.ensures.steps.0 in (
      all,
      subst (λ (l : List FlushCell). AsksEach (c.loop-seat.yielded ++ seat ∷ []) l) (sym push) (asks_more c.loop-seat.yielded c.loop-seat.asked.items seat c.ask_one.result i.1 one.asks),
      ap (λ (l : List FlushCell). map cell_of l) push ∙ map_same cell_of c.loop-seat.asked.items c.loop-seat.yielded c.ask_one.result seat i.2 one.cell,
      (λ kept. subst (λ (l : List FlushCell). All IsCellKept l) (sym push) (all_more IsCellKept c.loop-seat.asked.items c.ask_one.result (i.3 kept)
          (one.kept (here IsCellKept c.args.seats.items c.loop-seat.yielded rest seat all kept)))),
      search rules,
      (
        same_sum held_weight c.loop-seat.asked.items c.push_reserved.new.self.items c.loop-seat.yielded c.ask_one.result seat push i.5.0 one.weights.0,
        same_sum taken_weight c.loop-seat.asked.items c.push_reserved.new.self.items c.loop-seat.yielded c.ask_one.result seat push i.5.1 one.weights.1,
      ),
      longer c.loop-seat.yielded seat _ _ i.6 c.push_reserved.ensures.len,
    )
