-- The symbols of a book's names. This project's own.
use Rattle.std.specs.Prelude.{◌≡◌, ℕ, List, map, Some, slice_get}
use Rattle.symbol_table.specs.Table.{Table, Holds, uses_at, times, IsTable}

-- the table of these tokens with their numbers, each counted as often as it stands among them
pub record AreUses (uses : Table) (symbols : List (List ℕ × ℕ)) : Type 0 where
  -- a number without a use is not in the table
  pub table : IsTable uses
  pub counts : (n : ℕ) → uses_at uses n ≡ times n (map (λ symbol. symbol.1) symbols)
  pub tokens : (at : ℕ) (token : List ℕ) (n : ℕ) → slice_get symbols at ≡ Some (token, n) → Holds uses token n
