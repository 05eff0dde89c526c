use Rattle.std.proofs.Common.{◌≡◌, ◌+◌, ◌++◌, [], ◌∷◌, length, take, sym, subst, rules, length-append, ℕ}
use Rattle.std.specs.List.{flat_map, zip}
use Rattle.std.specs.Slice.Iter.{iter_rest}
use Rattle.std.specs.Iterator.Adapters.{zip_first, zip_second}
use Rattle.std.proofs.lemmas.Slice.Zip.{zip_turn, zip_end}
use Rattle.flush_view.specs.Symbols.{symbol_told}
use Rattle.report_text.proofs.Told.{texts_of, told_next, told_all}
use Rattle.report_text.proofs.symbols.put_each.Goals as goal

pub loop-number-preserved : goal.loop-number-preserved
loop-number-preserved c =
    let first : iter_rest (zip_first c.into_iter-number-iterator.result) ≡ c.args.numbers.now = search rules in
    let second : iter_rest (zip_second c.into_iter-number-iterator.result) ≡ c.args.cut.now = search rules in
    let turn =
    zip_turn c.args.numbers.now c.args.cut.now c.loop-number.yielded c.into_iter-number-iterator.result
    c.loop-number.number-iterator
    c.next.new.self c.next.result first second c.loop-number.yielded_by
    (c.in-Some.number, c.in-Some.token) c.in-Some.is c.next.ensures.steps in
    let more : length c.loop-number.yielded + 1 ≡ length
    (c.loop-number.yielded ++ (c.in-Some.number, c.in-Some.token) ∷ []) =
    sym (length-append c.loop-number.yielded _) in
    subst (λ (n : ℕ). c.put_symbol.new.text.items ≡ c.args.text.now.items
    ++ flat_map symbol_told (take n (zip c.args.numbers.now (texts_of c.args.cut.now)))) more
    (told_next c.args.numbers.now c.args.cut.now (length c.loop-number.yielded) c.in-Some.number c.in-Some.token
    c.args.text.now.items
    c.loop-number.text.items c.put_symbol.new.text.items turn.0 turn.1 turn.2 turn.3 c.loop-number.invariant
    c.in_ok-put_symbol.ensures)

pub returns : goal.returns
returns c =
    let first : iter_rest (zip_first c.into_iter-number-iterator.result) ≡ c.args.numbers.now = search rules in
    let second : iter_rest (zip_second c.into_iter-number-iterator.result) ≡ c.args.cut.now = search rules in
    told_all c.args.numbers.now c.args.cut.now (length c.loop-number.yielded) c.args.text.now.items
    c.loop-number.text.items
    (zip_end c.args.numbers.now c.args.cut.now c.loop-number.yielded c.into_iter-number-iterator.result
    c.loop-number.number-iterator
    c.next.new.self c.next.result first second c.loop-number.yielded_by c.in-None.is c.next.ensures.steps)
    c.loop-number.invariant
