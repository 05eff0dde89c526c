use Rattle.std.proofs.Common.{arith, ◌≡◌, ◌+◌, List, [], ◌∷◌, ◌++◌, length, length-append, append-nil, sym, ap, subst, ◌∙◌}
use Rattle.std.specs.Vec.Iter.{into_iter_items}
use Rattle.std.proofs.lemmas.List.{nil_from_length}
use Rattle.merge_round.specs.Halves.{HalfState}
use Rattle.turn_cell.specs.declared.cell.TurnCell.{TurnCell}
use Rattle.flush_cells.proofs.ListLemmas.{taken_one}
use Rattle.recorder.specs.declared.ended.Ended.{Ended}
use Rattle.store_closing.specs.Sorting.{Sorts}
use Rattle.store_closing.proofs.OneByOne.{fewer_room, sorts_more, cell_for_each}
use Rattle.store_closing.proofs.sorting.put_all.Goals as goal

pub unreachable-requires : goal.unreachable-requires
unreachable-requires c = let i = c.loop-worker.invariant in let cells = c.args.cells.items in let ended = c.args.ended.items in let left = into_iter_items c.loop-worker.waiting in
    let empty : left ≡ [] = nil_from_length left (sym i.cells_left ∙ c.in_default.ensures.cases.0) in
    cell_for_each cells i.taken ended c.loop-worker.yielded (into_iter_items c.next.new.self) c.in-Some.worker c.requires.cells
    (i.all ∙ ap (λ (l : List (TurnCell HalfState)). i.taken ++ l) empty)
    (i.whole ∙ ap (λ (l : List Ended). c.loop-worker.yielded ++ l) c.in-Some.ensures.steps.0) i.at

pub put-requires : goal.put-requires
put-requires c = let i = c.loop-worker.invariant in let left = into_iter_items c.loop-worker.worker-iterator in let rest = into_iter_items c.next.new.self in
    let short = ap (λ (l : List Ended). length l) c.in-Some.ensures.steps.0 in
    record { room = fewer_room (length left + 0) 1 c.loop-worker.sorted (omega (arith, short)) (i.room 0 (fewer_room (length c.args.ended.items) (length c.args.ended.items + 0) c.args.sorted.now (omega arith) c.requires.room)) }

pub loop-worker-preserved : goal.loop-worker-preserved
loop-worker-preserved c =
    let i = c.loop-worker.invariant in let cells = c.args.cells.items in let ended = c.args.ended.items in let cell = c.in-Some-next.cell in let e = c.in-Some.worker in
    let done = c.loop-worker.yielded in let left = into_iter_items c.loop-worker.worker-iterator in let rest = into_iter_items c.next.new.self in
    let short = ap (λ (l : List Ended). length l) c.in-Some.ensures.steps.0 in record {
      whole = taken_one ended done _ _ e i.whole c.in-Some.ensures.steps.0;
      taken = i.taken ++ cell ∷ [];
      all = taken_one cells i.taken _ _ cell i.all c.in-Some-next.ensures.items;
      at = length-append i.taken (cell ∷ []) ∙ (ap (λ n. n + 1) i.at ∙ sym (length-append done (e ∷ [])));
      sorts = sorts_more i.taken done cell e c.args.sorted.now c.loop-worker.sorted c.put.new.self i.at i.sorts c.put.ensures.puts;
      room = λ more has. c.put.ensures.room (length rest + more) (fewer_room (length left + more) ((length rest + more) + 1) c.loop-worker.sorted (omega (arith, short)) (i.room more has));
      ended_left = (let was = i.ended_left in let gone = c.in-Some.ensures.steps.1 in omega (arith, was, gone, short));
      cells_left = (let was = i.cells_left in let gone = c.in-Some-next.ensures.len in let fewer = ap length c.in-Some-next.ensures.items in omega (arith, was, gone, fewer));
    }

pub returns-clause-sorts : goal.returns-clause-sorts
returns-clause-sorts c = let i = c.loop-worker.invariant in let cells = c.args.cells.items in let ended = c.args.ended.items in let done = c.loop-worker.yielded in let left = into_iter_items c.loop-worker.worker-iterator in
    let empty : left ≡ [] = nil_from_length left (sym i.ended_left ∙ c.in-None.ensures.steps.0) in
    let all : ended ≡ done = i.whole ∙ (ap (λ (l : List Ended). done ++ l) empty ∙ append-nil done) in
    let waiting = into_iter_items c.loop-worker.waiting in
    let none : waiting ≡ [] = nil_from_length waiting
    (let a = ap (λ (l : List (TurnCell HalfState)). length l) i.all in let b = length-append i.taken waiting in let d = ap (λ (l : List Ended). length l) all in let e = i.at in let f = c.requires.cells in omega (arith, a, b, d, e, f)) in
    let taken : cells ≡ i.taken = i.all ∙ (ap (λ (l : List (TurnCell HalfState)). i.taken ++ l) none ∙ append-nil i.taken) in
    subst (λ (l : List (TurnCell HalfState)). Sorts l ended c.args.sorted.now c.loop-worker.sorted) (sym taken)
    (subst (λ (l : List Ended). Sorts i.taken l c.args.sorted.now c.loop-worker.sorted) (sym all) i.sorts)

pub returns-clause-room : goal.returns-clause-room
returns-clause-room c = λ more has. let i = c.loop-worker.invariant in let left = into_iter_items c.loop-worker.worker-iterator in
    fewer_room (length left + more) more c.loop-worker.sorted (omega arith) (i.room more has)
