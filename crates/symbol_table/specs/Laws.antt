-- What the changes of a table come to (this project's own).
use Rattle.std.specs.Prelude.{◌≡◌, ℕ, List}
use Rattle.symbol_table.specs.Drawing.{DrawsAll}
use Rattle.symbol_table.specs.Table.{Table, Holds, InUseAll, text_in, counted_all, counted_again_all, uncounted_all}

-- a name keeps its text as long as all its numbers are in use
pub record TextsStay : Type 0 where
  pub counted : (table : Table) (names : List (List ℕ)) (numbers : List ℕ) (name : List ℕ)
      → DrawsAll (Holds table) names numbers → InUseAll table name
      → text_in (counted_all table names numbers) name ≡ text_in table name
  pub again : (table : Table) (held name : List ℕ) → text_in (counted_again_all table held) name ≡ text_in table name
  pub uncounted : (table : Table) (dropped name : List ℕ) → InUseAll (uncounted_all table dropped) name
      → text_in (uncounted_all table dropped) name ≡ text_in table name
