use Rattle.std.proofs.Common.{◌≡◌, ℕ, ◌+◌, ◌==◌, ◌≤◌, drop}
use Rattle.std.specs.List.{count_by}
use Rattle.symbol_table.specs.Table.{uses_at, total, uncounted_all}
use Rattle.symbol_table.proofs.table.SymbolTable.drop_numbers.Given as goal

abbrev pub invariant-loop-n : goal.invariant-loop-n
invariant-loop-n l = record {
  rest : uncounted_all l.self (drop l.n-index l.numbers) ≡ uncounted_all l.initial.self l.numbers;
  used : (n : ℕ) → count_by (λ k. k == n) (drop l.n-index l.numbers) ≤ uses_at l.self n;
  counted : total l.self + l.n-index ≡ total l.initial.self;
}
