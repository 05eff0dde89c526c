use Rattle.std.proofs.Common.{arith, refl, ◌≡◌, ℕ, ◌+◌, List, [], ◌∷◌, ◌++◌, length, length-append, append-nil, sym, ap, subst, ◌∙◌}
use Rattle.std.specs.Vec.Iter.{into_iter_items}
use Rattle.std.proofs.lemmas.List.{nil_from_length}
use Rattle.flush_cells.specs.declared.tokens.FlushCell.{FlushCell}
use Rattle.flush_cells.specs.Cells.{merged_count, IsCellKept}
use Rattle.flush_cells.proofs.ListLemmas.{taken_one, here, longer}
use Rattle.cells_end.specs.declared.end.CellEnd.{CellEnd}
use Rattle.cells_end.specs.Ends.{EndsOne, EndsEach}
use Rattle.cells_end.proofs.EndLemmas.{ends_more, room_for, none_behind, end_here, none_left, within, more_left}
use Rattle.cells_end.proofs.all.end_each.Goals as goal

pub unreachable-requires : goal.unreachable-requires
unreachable-requires c = let i = c.loop-end.invariant in let tokens = c.args.tokens.items in let ends = c.args.ends.items in let left = into_iter_items c.loop-end.waiting in
    let empty : left ≡ [] = nil_from_length left (sym i.tokens_left ∙ c.in_default.ensures.cases.0) in
    none_behind tokens i.taken ends c.loop-end.yielded (into_iter_items c.next.new.self) c.in-Some.end c.requires.ends
    (i.all ∙ (ap (λ (l : List FlushCell). i.taken ++ l) empty ∙ append-nil i.taken))
    (taken_one ends c.loop-end.yielded _ _ c.in-Some.end i.whole c.in-Some.ensures.steps.0) i.at

pub end_one-requires-clause-end : goal.end_one-requires-clause-end
end_one-requires-clause-end c = let i = c.loop-end.invariant in let tokens = c.args.tokens.items in let ends = c.args.ends.items in
    end_here tokens i.taken (into_iter_items c.next-in-loop-end.new.self) c.in-Some-next.token ends c.loop-end.yielded (into_iter_items c.next.new.self) c.in-Some.end c.requires.ends
    (taken_one tokens i.taken _ _ c.in-Some-next.token i.all c.in-Some-next.ensures.items)
    (taken_one ends c.loop-end.yielded _ _ c.in-Some.end i.whole c.in-Some.ensures.steps.0) i.at

pub end_one-requires-clause-kept : goal.end_one-requires-clause-kept
end_one-requires-clause-kept c = let i = c.loop-end.invariant in let tokens = c.args.tokens.items in
    here IsCellKept tokens i.taken (into_iter_items c.next-in-loop-end.new.self) c.in-Some-next.token
    (taken_one tokens i.taken _ _ c.in-Some-next.token i.all c.in-Some-next.ensures.items) c.requires.kept.each

pub end_one-requires-clause-room : goal.end_one-requires-clause-room
end_one-requires-clause-room c = let i = c.loop-end.invariant in let tokens = c.args.tokens.items in
    room_for (merged_count c.args.parents.now) (merged_count c.loop-end.parents) tokens (length c.loop-end.yielded) c.requires.kept i.few
    (within tokens i.taken (into_iter_items c.loop-end.waiting) c.loop-end.yielded i.all i.at)

pub loop-end-preserved : goal.loop-end-preserved
loop-end-preserved c =
    let i = c.loop-end.invariant in let tokens = c.args.tokens.items in let ends = c.args.ends.items in let token = c.in-Some-next.token in let end = c.in-Some.end in
    let done = c.loop-end.yielded in let one = c.in_ok-end_one.ensures in let p = c.args.parents.now in let m = c.loop-end.parents in let q = c.end_one.new.parents in
    let number = c.loop-end.worker in record {
      whole = taken_one ends done _ _ end i.whole c.in-Some.ensures.steps.0;
      taken = i.taken ++ token ∷ [];
      all = taken_one tokens i.taken _ _ token i.all c.in-Some-next.ensures.items;
      at = length-append i.taken (token ∷ []) ∙ (ap (λ n. n + 1) i.at ∙ sym (length-append done (end ∷ [])));
      ends = ends_more 1 p m q i.taken done token end i.ends (subst (λ (w : ℕ). EndsOne w token end m q) (placed number done i.worker) one.ends);
      worker = longer done end number (number + 1) i.worker refl;
      few = more_left (merged_count p) (merged_count m) (merged_count q) done end i.few one.count;
      ends_left = (let was = i.ends_left in let gone = c.in-Some.ensures.steps.1 in let short = ap length c.in-Some.ensures.steps.0 in omega (arith, was, gone, short));
      tokens_left = (let was = i.tokens_left in let gone = c.in-Some-next.ensures.len in let short = ap length c.in-Some-next.ensures.items in omega (arith, was, gone, short));
    } where
      placed : (n : ℕ) (done : List CellEnd) → n ≡ length done → n + 1 ≡ 1 + length done
      placed n done is = omega (arith, is)

pub returns : goal.returns
returns c = let i = c.loop-end.invariant in let tokens = c.args.tokens.items in let ends = c.args.ends.items in let done = c.loop-end.yielded in let left = into_iter_items c.loop-end.end-iterator in
    let p = c.args.parents.now in let q = c.loop-end.parents in
    let empty : left ≡ [] = nil_from_length left (sym i.ends_left ∙ c.in-None.ensures.steps.0) in
    let all : ends ≡ done = i.whole ∙ (ap (λ (l : List CellEnd). done ++ l) empty ∙ append-nil done) in
    subst (λ (l : List CellEnd). EndsEach 1 tokens l p q) (sym all)
    (subst (λ (l : List FlushCell). EndsEach 1 l done p q) (sym (none_left tokens i.taken (into_iter_items c.loop-end.waiting) ends done c.requires.ends i.all all i.at)) i.ends)
