use Rattle.std.proofs.Common.{◌≡◌, ◌+◌, ◌<◌, All, drop}
use Rattle.symbol_table.specs.Table.{uses_at, total, counted_again_all}
use Rattle.symbol_table.proofs.table.SymbolTable.hold.Given as goal

abbrev pub invariant-loop-n : goal.invariant-loop-n
invariant-loop-n l = record {
  rest : counted_again_all l.self (drop l.n-index l.held) ≡ counted_again_all l.initial.self l.held;
  used : All (λ n. 0 < uses_at l.self n) (drop l.n-index l.held);
  counted : total l.self ≡ total l.initial.self + l.n-index;
}
