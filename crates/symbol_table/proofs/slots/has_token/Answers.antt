use Rattle.std.proofs.Common.{◌-◌, ◌∙◌, sym, arith}
use Rattle.std.specs.Cmp.Lexicographic.{same_text}
use Rattle.symbol_table.proofs.Counting.{get_here}
use Rattle.symbol_table.proofs.slots.has_token.Goals as goal

pub returns-then-slot-gt0 : goal.returns-then-slot-gt0
returns-then-slot-gt0 c = λ same.
    let token = sym c.bytes.ensures ∙ same_text c.bytes.result.now c.args.token.now (sym same ∙ c.eq.ensures) in
    (c.args.n - 1, c.in-Some.slot.now, omega (arith, c.if-n-eq0.false), get_here c.args.slots.now (c.args.n - 1) c.in-Some.slot.now c.in-Some.ensures.lookup.3.0 c.in-Some.ensures.lookup.1, token, c.if-slot-gt0.true)
