use Rattle.std.proofs.Common.{arith, ◌∙◌}
use Rattle.symbol_table.proofs.Holding.{next_used, held_rest, held_used, held_uses}
use Rattle.symbol_table.proofs.table.SymbolTable.hold.Goals as goal

pub count_again-requires-clause-used : goal.count_again-requires-clause-used
count_again-requires-clause-used c = next_used c.loop-n.self c.loop-n.self c.symbols-held.result.now c.loop-n.n-index c.loop-n-test.true c.loop-n.invariant.used

pub loop-n-preserved : goal.loop-n-preserved
loop-n-preserved c = record {
  rest = held_rest c.loop-n.self c.count_again.new.self c.symbols-held.result.now c.loop-n.n-index c.loop-n-test.true c.count_again.ensures.counted ∙ c.loop-n.invariant.rest;
  used = held_used c.loop-n.self c.count_again.new.self c.symbols-held.result.now c.loop-n.n-index c.loop-n-test.true c.count_again.ensures.counted c.loop-n.invariant.used;
  counted = omega (arith, c.count_again.ensures.total, c.loop-n.invariant.counted);
}

pub returns-clause-uses : goal.returns-clause-uses
returns-clause-uses c = held_uses c.args.self.now c.loop-n.self c.symbols-held.result.now c.args.name.now c.loop-n.n-index c.loop-n-test.false c.symbols-held.ensures.numbers c.loop-n.invariant.rest
