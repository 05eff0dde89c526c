use Rattle.std.proofs.Common.{◌≡◌, ◌+◌, ◌≤◌, ℕ, take}
use Rattle.symbol_table.specs.Table.{uses_at, times, total, uncounted_all}
use Rattle.stat_book.specs.Sweeps.{numbers_of_all}
use Rattle.stat_book.proofs.sweeps.free_names.Given as goal

abbrev pub invariant-loop-id : goal.invariant-loop-id
invariant-loop-id l = record {
  freed : l.symbols ≡ uncounted_all l.initial.symbols (numbers_of_all l.state.state.metrics (take l.id-index l.gone));
  uses : (n : ℕ) → uses_at l.symbols n + times n (numbers_of_all l.state.state.metrics (take l.id-index l.gone)) ≡ uses_at l.initial.symbols n;
  less : total l.symbols ≤ total l.initial.symbols;
}
