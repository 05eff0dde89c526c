use Rattle.std.proofs.Common.{arith, refl, ◌∙◌}
use Rattle.symbol_table.proofs.Holding.{next_counted, dropped_rest, dropped_used, dropped_uses}
use Rattle.symbol_table.proofs.table.SymbolTable.drop_numbers.Goals as goal

pub uncount-requires : goal.uncount-requires
uncount-requires c = next_counted c.loop-n.self c.loop-n.self c.args.numbers.now c.loop-n.n-index c.loop-n-test.true c.loop-n.invariant.used

pub loop-n-preserved : goal.loop-n-preserved
loop-n-preserved c = record {
  rest = dropped_rest c.loop-n.self c.uncount.new.self c.args.numbers.now c.loop-n.n-index c.loop-n-test.true c.uncount.ensures.uncounted ∙ c.loop-n.invariant.rest;
  used = dropped_used c.loop-n.self c.uncount.new.self c.args.numbers.now c.loop-n.n-index c.loop-n-test.true c.uncount.ensures.uncounted c.loop-n.invariant.used;
  counted = omega (arith, c.uncount.ensures.total, c.loop-n.invariant.counted);
}

pub returns-clause-uses : goal.returns-clause-uses
returns-clause-uses c = dropped_uses c.args.self.now c.loop-n.self c.args.numbers.now c.args.numbers.now c.loop-n.n-index c.loop-n-test.false refl c.loop-n.invariant.rest c.requires
