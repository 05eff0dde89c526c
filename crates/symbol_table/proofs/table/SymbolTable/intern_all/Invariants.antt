use Rattle.std.proofs.Common.{◌≡◌, ◌+◌, ◌<◌, ◌≤◌, length, map, take, All}
use Rattle.std.specs.Prelude.{vec_len}
use Rattle.std.specs.Vec.{vec_capacity}
use Rattle.symbol_table.specs.Table.{total, Interns}
use Rattle.symbol_table.proofs.table.SymbolTable.intern_all.Given as goal

abbrev pub invariant-loop-part : goal.invariant-loop-part
invariant-loop-part l = record {
  interned : Interns l.initial.self (map (λ x. x.now) (take l.part-index l.parts)) l.self l.numbers.items;
  from_one : All (λ n. 0 < n) l.numbers.items;
  counted : total l.self ≡ total l.initial.self + l.part-index;
  length_is : vec_len l.numbers ≡ l.part-index;
  room : length l.parts ≤ vec_capacity l.numbers;
}
