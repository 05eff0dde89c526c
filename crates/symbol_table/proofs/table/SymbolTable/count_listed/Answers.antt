use Rattle.std.proofs.Common.{◌≡◌, ℕ, ◌<◌, Some, List, nat_eq, sym, ◌∙◌, subst}
use Rattle.std.specs.HashMap.{get}
use Rattle.std.specs.Cmp.Lexicographic.{pointwise}
use Rattle.symbol_table.specs.Drawing.{Draws}
use Rattle.symbol_table.specs.Table.{Table, Holds, uses_at}
use Rattle.symbol_table.specs.Kept.{shown}
use Rattle.symbol_table.proofs.Counting.{drawn_hit, hit_holds, hit_some, miss_none}
use Rattle.symbol_table.proofs.DrawingLemmas.{again_counted, holds_from_one}
use Rattle.symbol_table.proofs.Whole.{is_table}
use Rattle.symbol_table.proofs.table.SymbolTable.count_listed.Goals as goal
use Rattle.symbol_table.proofs.table.SymbolTable.count_listed.Goals.{In-Some}

hit_of : (c : In-Some) → get (pointwise nat_eq) c.self.inside.index c.args.token.now ≡ Some c.in-Some.n
hit_of c = subst (λ (t : List ℕ). get (pointwise nat_eq) c.self.inside.index t ≡ Some c.in-Some.n) c.in_ok-key.ensures (sym c.in-Some.ensures)

pub count_again-requires-clause-used : goal.count_again-requires-clause-used
count_again-requires-clause-used c = let d = (goal.at.count_again-requires-clause-used c).In-Some in
    subst (λ (t : Table). 0 < uses_at t c.in-Some.n) c.self.view_is (hit_some c.self.inside c.self.invariant.indexed c.args.token.now c.in-Some.n (hit_of d))

pub returns-in-Some-clause-drawn : goal.returns-in-Some-clause-drawn
returns-in-Some-clause-drawn c = let d = (goal.at.returns-in-Some-clause-drawn c).In-Some in
    subst (λ (t : Table). Draws (Holds t) c.args.token.now c.in-Some.n) c.self.view_is (drawn_hit c.self.inside c.self.invariant.indexed c.args.token.now c.in-Some.n (hit_of d))

pub returns-in-Some-clause-from_one : goal.returns-in-Some-clause-from_one
returns-in-Some-clause-from_one c = let d = (goal.at.returns-in-Some-clause-from_one c).In-Some in
    holds_from_one (shown c.self.inside) (is_table c.self.inside c.self.invariant) c.args.token.now c.in-Some.n (hit_holds c.self.inside c.self.invariant.indexed c.args.token.now c.in-Some.n (hit_of d))

pub returns-in-Some-clause-counted : goal.returns-in-Some-clause-counted
returns-in-Some-clause-counted c = let d = (goal.at.returns-in-Some-clause-counted c).In-Some in
    c.count_again.ensures.counted ∙ again_counted c.args.self.now c.args.token.now c.in-Some.n
    (subst (λ (t : Table). Holds t c.args.token.now c.in-Some.n) c.self.view_is (hit_holds c.self.inside c.self.invariant.indexed c.args.token.now c.in-Some.n (hit_of d)))

pub add_token-requires-clause-new : goal.add_token-requires-clause-new
add_token-requires-clause-new c = subst (λ (t : Table). (n : ℕ) → Holds t c.in_ok-key.key n → ⊥) c.self.view_is (miss_none c.self.inside c.self.invariant.indexed c.in_ok-key.key (sym c.in_default.ensures))
