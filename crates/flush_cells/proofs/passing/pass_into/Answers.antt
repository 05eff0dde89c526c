use Rattle.std.proofs.Common.{rules, ◌∙◌, ℕ, sym, ap, map, All, subst, length, List, ◌++◌, ◌∷◌, []}
use Rattle.std.specs.Vec.Iter.{into_iter_items}
use Rattle.flush_cells.specs.Cells.{merged_count}
use Rattle.turn_cell.specs.Tokens.{cell_id}
use Rattle.flush_cells.specs.declared.tokens.FlushCell.{FlushCell}
use Rattle.flush_cells.specs.Cells.{cell_of, IsCellKept}
use Rattle.flush_cells.specs.Passes.{Passes, PassesEach}
use Rattle.flush_cells.proofs.ListLemmas.{taken_one, here, place, all_more, map_same, passes_more, longer, sums_more, room_left, numbered, told_more}
use Rattle.flush_cells.proofs.passing.pass_into.Goals as goal

pub pass_one-looked-requires-clause-cell : goal.pass_one-looked-requires-clause-cell
pass_one-looked-requires-clause-cell c = let i = c.loop-seat.invariant in let seat = c.in-Some.seat in let rest = into_iter_items c.next.new.self in
    place cell_id cell_of c.args.cells.now c.args.seats.items c.loop-seat.yielded rest seat _ c.index-cells-len.result c.index-cells-len.result c.requires.cells
    (taken_one c.args.seats.items c.loop-seat.yielded _ rest seat i.0 c.in-Some.ensures.steps.0) (c.len.ensures ∙ i.7) c.index-cells-len.is

pub pass_one-looked-requires-clause-kept : goal.pass_one-looked-requires-clause-kept
pass_one-looked-requires-clause-kept c = let i = c.loop-seat.invariant in let seat = c.in-Some.seat in let rest = into_iter_items c.next.new.self in
    here IsCellKept c.args.seats.items c.loop-seat.yielded rest seat (taken_one c.args.seats.items c.loop-seat.yielded _ rest seat i.0 c.in-Some.ensures.steps.0) c.requires.kept.each

pub pass_one-looked-requires-clause-room : goal.pass_one-looked-requires-clause-room
pass_one-looked-requires-clause-room c = let i = c.loop-seat.invariant in
    room_left (merged_count c.args.parents.now) (merged_count c.loop-seat.parents) c.args.seats.items c.loop-seat.yielded (into_iter_items c.loop-seat.seat-iterator) c.loop-seat.next.items c.requires.kept i.0 i.3 i.4 (ap length i.2)

pub loop-seat-preserved : goal.loop-seat-preserved
loop-seat-preserved c =
    let i = c.loop-seat.invariant in let seat = c.in-Some.seat in let rest = into_iter_items c.next.new.self in let push = c.push_reserved.ensures.items in
    let one = c.pass_one-looked.ensures in let new = c.pass_one-looked.result.0 in let all = taken_one c.args.seats.items c.loop-seat.yielded _ rest seat i.0 c.in-Some.ensures.steps.0 in (
      all,
      subst (λ (l : List FlushCell). PassesEach 1 c.args.parents.now (c.loop-seat.yielded ++ seat ∷ []) c.pass_one-looked.new.parents l) (sym push)
          (passes_more 1 c.args.parents.now c.loop-seat.parents c.pass_one-looked.new.parents c.loop-seat.yielded c.loop-seat.next.items seat new i.1
          (subst (λ (w : ℕ). Passes w c.loop-seat.parents seat c.pass_one-looked.new.parents new) (numbered c.loop-seat.yielded _ _ c.len-in-loop-seat.ensures i.7) one.passes)),
      ap (λ (l : List FlushCell). map cell_of l) push ∙ map_same cell_of c.loop-seat.next.items c.loop-seat.yielded new seat i.2 one.cell,
      subst (λ (l : List FlushCell). All IsCellKept l) (sym push) (all_more IsCellKept c.loop-seat.next.items new i.3 one.kept),
      sums_more (merged_count c.args.parents.now) (merged_count c.loop-seat.parents) (merged_count c.pass_one-looked.new.parents) c.loop-seat.yielded seat c.loop-seat.next.items c.push_reserved.new.self.items new push i.4 one.count,
      c.with_late-pass.ensures ∙ told_more c.loop-seat.next.items c.loop-seat.yielded c.push_reserved.new.self.items new c.loop-seat.pass _ c.pass_one-looked.result.1 push i.5
          (numbered c.loop-seat.yielded _ _ c.len-in-loop-seat.ensures i.7) (ap length i.2) one.late,
      search rules,
      longer c.loop-seat.yielded seat _ _ i.7 c.push_reserved.ensures.len,
    )
