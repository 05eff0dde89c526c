-- The table as callers see it: the token and the count of uses of each number. A number without uses has no entry
-- (Envoy's design note on statistics: symbols are counted by reference, and a symbol without references is free).
use Rattle.std.specs.Prelude.{◌≡◌, ℕ, ◌+◌, ◌-◌, ◌<◌, ◌==◌, if◌then◌else◌, Some, None, List, [], ◌∷◌}
use Rattle.std.specs.Prelude.{map as list_map, All}
use Rattle.std.specs.List.{sum_by, count_by, join_with_byte}
use Rattle.std.specs.Ordering.{nat_cmp}
use Rattle.std.specs.FinMap as map
use Rattle.symbol_table.specs.declared.table.TheConstants.{MAX_USES}
use Rattle.symbol_table.specs.Drawing.{DrawsAll}

abbrev pub Table : Type 0
Table = map.FinMap nat_cmp (List ℕ × ℕ)

-- the token is in use under this number
abbrev pub Holds : Table → List ℕ → ℕ → Type 0
Holds table token n = (uses : ℕ) × (map.get table n ≡ Some (token, uses))

abbrev pub uses_at : Table → ℕ → ℕ
uses_at table n = elim (map.get table n) [ Some entry ↦ entry.1 | None ↦ 0 ]

abbrev pub token_in : Table → ℕ → List ℕ
token_in table n = elim (map.get table n) [ Some entry ↦ entry.0 | None ↦ [] ]

abbrev pub uses_of : ℕ × (List ℕ × ℕ) → ℕ
uses_of entry = entry.1.1

-- all uses together
unfoldable pub total : Table → ℕ
total table = sum_by uses_of (map.entries table)

-- the text of a name: the tokens of its numbers, with dots between them
abbrev pub text_in : Table → List ℕ → List ℕ
text_in table numbers = join_with_byte 46 (list_map (token_in table) numbers)

-- one use more of a token under its number
abbrev pub counted : Table → List ℕ → ℕ → Table
counted table token n = map.insert table n (token, uses_at table n + 1)

-- one use more of each token of a name
abbrev pub counted_all : Table → List (List ℕ) → List ℕ → Table
counted_all table (t ∷ ts) (n ∷ ns) = counted_all (counted table t n) ts ns
counted_all table _ _ = table

-- one use more of a number in use
abbrev pub counted_again : Table → ℕ → Table
counted_again table n = map.insert table n (token_in table n, uses_at table n + 1)

abbrev pub counted_again_all : Table → List ℕ → Table
counted_again_all table [] = table
counted_again_all table (n ∷ ns) = counted_again_all (counted_again table n) ns

-- one use less of a number in use; without the last use the number is free
abbrev pub uncounted : Table → ℕ → Table
uncounted table n = if uses_at table n == 1 then map.remove table n
    else map.insert table n (token_in table n, uses_at table n - 1)

abbrev pub uncounted_all : Table → List ℕ → Table
uncounted_all table [] = table
uncounted_all table (n ∷ ns) = uncounted_all (uncounted table n) ns

-- how often a number stands in a name
abbrev pub times : ℕ → List ℕ → ℕ
times n numbers = count_by (λ k. k == n) numbers

-- all numbers of the name are in use
abbrev pub InUseAll : Table → List ℕ → Type 0
InUseAll table name = All (λ n. 0 < uses_at table n) name

-- what every table keeps: numbers begin at 1, each number in use has uses, no token has two numbers, and all uses
-- together stay below the limit
pub record IsTable (table : Table) : Type 0 where
  pub from_one : map.get table 0 ≡ None
  pub used : (n : ℕ) (token : List ℕ) (uses : ℕ) → map.get table n ≡ Some (token, uses) → 0 < uses
  pub distinct : (token : List ℕ) (m n : ℕ) → Holds table token m → Holds table token n → m ≡ n
  pub few : total table < MAX_USES

-- the tokens were counted under these numbers, which were drawn for them
pub record Interns (old : Table) (names : List (List ℕ)) (new : Table) (numbers : List ℕ) : Type 0 where
  pub drawn : DrawsAll (Holds old) names numbers
  pub counted_are : new ≡ counted_all old names numbers
