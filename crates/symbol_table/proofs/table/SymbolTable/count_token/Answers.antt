use Rattle.std.proofs.Common.{◌≡◌, ◌<◌, Some, List, nat_eq, ◌∙◌, subst}
use Rattle.std.specs.HashMap.{get}
use Rattle.std.specs.Cmp.Lexicographic.{pointwise}
use Rattle.symbol_table.specs.declared.slots.Slot.{Slot}
use Rattle.symbol_table.specs.Drawing.{Draws}
use Rattle.symbol_table.specs.Slots.{IsListed}
use Rattle.symbol_table.specs.Table.{Table, Holds, uses_at}
use Rattle.symbol_table.specs.Kept.{shown}
use Rattle.symbol_table.proofs.Counting.{drawn_hit, hit_holds, hit_some, listed_hit}
use Rattle.symbol_table.proofs.DrawingLemmas.{again_counted, holds_from_one}
use Rattle.symbol_table.proofs.Whole.{is_table}
use Rattle.symbol_table.proofs.table.SymbolTable.count_token.Goals as goal
use Rattle.symbol_table.proofs.table.SymbolTable.count_token.Goals.{Then-has_token}

hit_of : (c : Then-has_token) → get (pointwise nat_eq) c.self.inside.index c.args.token.now ≡ Some c.number_of-last.result
hit_of c = listed_hit c.self.inside c.self.invariant.indexed c.args.token.now c.number_of-last.result
    (subst (λ (slots : List Slot). IsListed slots c.number_of-last.result c.args.token.now) c.deref.ensures.value (c.has_token.ensures c.if-has_token.true))

pub count_again-requires-clause-used : goal.count_again-requires-clause-used
count_again-requires-clause-used c = let d = (goal.at.count_again-requires-clause-used c).Then-has_token in
    subst (λ (t : Table). 0 < uses_at t c.number_of-last.result) c.self.view_is (hit_some c.self.inside c.self.invariant.indexed c.args.token.now c.number_of-last.result (hit_of d))

pub returns-then-has_token-clause-drawn : goal.returns-then-has_token-clause-drawn
returns-then-has_token-clause-drawn c = let d = (goal.at.returns-then-has_token-clause-drawn c).Then-has_token in
    subst (λ (t : Table). Draws (Holds t) c.args.token.now c.number_of-last.result) c.self.view_is (drawn_hit c.self.inside c.self.invariant.indexed c.args.token.now c.number_of-last.result (hit_of d))

pub returns-then-has_token-clause-from_one : goal.returns-then-has_token-clause-from_one
returns-then-has_token-clause-from_one c = let d = (goal.at.returns-then-has_token-clause-from_one c).Then-has_token in
    holds_from_one (shown c.self.inside) (is_table c.self.inside c.self.invariant) c.args.token.now c.number_of-last.result (hit_holds c.self.inside c.self.invariant.indexed c.args.token.now c.number_of-last.result (hit_of d))

pub returns-then-has_token-clause-counted : goal.returns-then-has_token-clause-counted
returns-then-has_token-clause-counted c = let d = (goal.at.returns-then-has_token-clause-counted c).Then-has_token in
    c.count_again.ensures.counted ∙ again_counted c.args.self.now c.args.token.now c.number_of-last.result
    (subst (λ (t : Table). Holds t c.args.token.now c.number_of-last.result) c.self.view_is (hit_holds c.self.inside c.self.invariant.indexed c.args.token.now c.number_of-last.result (hit_of d)))
