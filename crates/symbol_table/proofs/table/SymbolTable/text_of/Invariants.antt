use Rattle.std.proofs.Common.{◌≡◌, ◌∷◌, ◌++◌, take}
use Rattle.std.specs.List.{flat_map}
use Rattle.symbol_table.specs.Table.{token_in}
use Rattle.symbol_table.proofs.table.SymbolTable.text_of.Given as goal

abbrev pub invariant-loop-n : goal.invariant-loop-n
invariant-loop-n l = l.text.items ≡ l.initial.text.items ++ flat_map (λ n. 46 ∷ token_in l.self n) (take l.n-index l.rest)
