use Rattle.std.proofs.Common.{◌≡◌, ℕ, ◌<◌, List, [], ◌∷◌, ◌++◌, All, take, ap, sym, ◌∙◌, subst, append_assoc}
use Rattle.std.specs.List.{flat_map}
use Rattle.std.proofs.lemmas.List.{take_all}
use Rattle.symbol_table.specs.Table.{uses_at, token_in, text_in}
use Rattle.symbol_table.proofs.Holding.{text_whole, text_more, tail_used}
use Rattle.std.proofs.lemmas.Result.{IfOk-weaker}
use Rattle.symbol_table.proofs.table.SymbolTable.text_of.Goals as goal

pub token_of-requires-in-loop-n : goal.token_of-requires-in-loop-n
token_of-requires-in-loop-n c =
    tail_used c.args.self.now c.in-Some.first.now c.in-Some.rest.now c.loop-n.n-index
    (subst (All (λ n. 0 < uses_at c.args.self.now n)) (sym c.symbols.ensures.numbers ∙ c.in-Some.ensures.cases.0) c.requires) c.loop-n-test.true

pub loop-n-preserved : goal.loop-n-preserved
loop-n-preserved c =
    let token = c.token_of-in-loop-n.result.now in
    let written = c.in_ok-extend_from_slice.ensures.items ∙ (ap (λ (s : List ℕ). s ++ token) c.in_ok-push.ensures.items ∙ append_assoc c.loop-n.text.items (46 ∷ []) token) in
    let now = ap (λ (s : List ℕ). s ++ 46 ∷ token) c.loop-n.invariant in
    let named = ap (λ (s : List ℕ). (c.in_ok-text.text.items ++ flat_map (λ n. 46 ∷ token_in c.args.self.now n) (take c.loop-n.n-index c.in-Some.rest.now)) ++ 46 ∷ s) c.token_of-in-loop-n.ensures in
    written ∙ (now ∙ (named ∙ text_more c.args.self.now c.in_ok-text.text.items c.in-Some.rest.now c.loop-n.n-index c.loop-n-test.true))

pub returns : goal.returns
returns c =
    let copy : c.in_ok-text.text.items ≡ token_in c.args.self.now c.in-Some.first.now = c.in_ok-text.ensures.items_if_clones_equal (λ x y e. e) ∙ c.token_of.ensures in
    let whole = ap (λ (l : List ℕ). c.in_ok-text.text.items ++ flat_map (λ n. 46 ∷ token_in c.args.self.now n) l) (take_all c.loop-n.n-index c.in-Some.rest.now c.loop-n-test.false) in
    let first = ap (λ (s : List ℕ). s ++ flat_map (λ n. 46 ∷ token_in c.args.self.now n) c.in-Some.rest.now) copy in
    let name = ap (text_in c.args.self.now) (sym c.in-Some.ensures.cases.0 ∙ c.symbols.ensures.numbers) in
    let all = c.loop-n.invariant ∙ (whole ∙ (first ∙ (sym (text_whole c.args.self.now c.in-Some.first.now c.in-Some.rest.now) ∙ name))) in
    IfOk-weaker c.of_vec.result (λ text. text ≡ c.loop-n.text.items) (λ text. text ≡ text_in c.args.self.now c.args.name.now) (λ text is. is ∙ all) c.of_vec.ensures
