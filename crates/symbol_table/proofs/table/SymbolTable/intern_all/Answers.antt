use Rattle.std.proofs.Common.{◌≡◌, ◌<◌, ◌+◌, ℕ, ◌∷◌, ◌++◌, [], List, map, All, take, sym, ap, ◌∙◌, subst, arith}
use Rattle.std.specs.Borrow.{Bor}
use Rattle.std.proofs.lemmas.List.Elements.{All-push}
use Rattle.symbol_table.specs.Table.{Table, uses_at, times, uncounted_all, Interns}
use Rattle.symbol_table.proofs.Adding.{interns_uses, all_undone}
use Rattle.symbol_table.proofs.DrawingLemmas.{interns_more}
use Rattle.symbol_table.proofs.Interning.{token_at, tokens_more}
use Rattle.symbol_table.proofs.table.SymbolTable.intern_all.Goals as goal

pub drop_numbers-requires : goal.drop_numbers-requires
drop_numbers-requires c = λ n.
    let uses = interns_uses c.args.self.now c.loop-part.self (map (λ (x : Bor (List ℕ)). x.now) (take c.loop-part.part-index c.args.parts.now)) c.loop-part.numbers.items c.loop-part.invariant.interned n in
    let same : uses_at c.count_token.new.self n ≡ uses_at c.loop-part.self n = ap (λ (t : Table). uses_at t n) c.in-Err.ensures.err in
    let numbers : times n c.deref.result.now ≡ times n c.loop-part.numbers.items = ap (times n) c.deref.ensures.value in
    omega (arith, uses, same, numbers)

pub returns-in-Err-clause-err : goal.returns-in-Err-clause-err
returns-in-Err-clause-err c =
    let back : c.drop_numbers.new.self ≡ uncounted_all c.loop-part.self c.loop-part.numbers.items =
    c.drop_numbers.ensures.dropped ∙ (ap (λ (t : Table). uncounted_all t c.deref.result.now) c.in-Err.ensures.err ∙ ap (uncounted_all c.loop-part.self) c.deref.ensures.value) in
    all_undone c.args.self.now c.loop-part.self c.drop_numbers.new.self (map (λ (x : Bor (List ℕ)). x.now) (take c.loop-part.part-index c.args.parts.now)) c.loop-part.numbers.items
    c.is_table.ensures c.drop_numbers.ensures.table c.loop-part.invariant.interned back

pub loop-part-preserved : goal.loop-part-preserved
loop-part-preserved c =
    let parts = c.args.parts.now in let i = c.loop-part.part-index in let before = c.loop-part.invariant in
    let more = interns_more c.args.self.now c.loop-part.self c.count_token.new.self (map (λ (x : Bor (List ℕ)). x.now) (take i parts)) c.loop-part.numbers.items (token_at parts i) c.in-Ok.n before.interned c.in-Ok.ensures.drawn c.in-Ok.ensures.counted in
    record {
      interned = subst (λ (ns : List ℕ). Interns c.args.self.now (map (λ (x : Bor (List ℕ)). x.now) (take (i + 1) parts)) c.count_token.new.self ns) (sym c.put_last.ensures.items)
          (subst (λ (ts : List (List ℕ)). Interns c.args.self.now ts c.count_token.new.self (c.loop-part.numbers.items ++ c.in-Ok.n ∷ [])) (tokens_more parts i c.loop-part-test.true) more);
      from_one = subst (All (λ n. 0 < n)) (sym c.put_last.ensures.items) (All-push (λ n. 0 < n) c.loop-part.numbers.items c.in-Ok.n before.from_one c.in-Ok.ensures.from_one);
      counted = omega (arith, c.in-Ok.ensures.total, before.counted);
      length_is = omega (arith, c.put_last.ensures.len, before.length_is);
      room = omega (arith, c.put_last.ensures.capacity, before.room);
    }
