-- How a name is stored (Envoy's design note on statistics: the byte count of the data, and then the symbols).
use Rattle.std.specs.Prelude.{◌≡◌, ℕ, ◌<◌, ◌≤◌, ◌^◌, Option, Some, MatchOption, List, ◌++◌, length, All}
use Rattle.std.specs.List.{flat_map}
use Rattle.stat_name.specs.declared.names.TheConstants.{MAX_NUMBERS}
use Rattle.stat_name.specs.Spelling.{spelling}

-- a name has 1 to 512 numbers, and none of them is 0
pub record IsName (numbers : List ℕ) : Type 0 where
  pub some : 1 ≤ length numbers
  pub few : length numbers ≤ MAX_NUMBERS
  pub each : All (λ n. 0 < n) numbers

-- the data of a name: the spellings of its numbers, one after the other
abbrev pub data_of : List ℕ → List ℕ
data_of numbers = flat_map spelling numbers

-- the stored form: the byte count of the data as a number, and then the data
abbrev pub stored : List ℕ → List ℕ
stored numbers = spelling (length (data_of numbers)) ++ data_of numbers

-- the bytes are the data of this name, whose numbers are below 2^32
pub record IsDataOf (bytes : List ℕ) (numbers : List ℕ) : Type 0 where
  pub name : IsName numbers
  pub small : All (λ n. n < 2 ^ 32) numbers
  pub bytes_are : bytes ≡ data_of numbers

-- what a reader of data answers: the name whose data these bytes are; nothing where they are no name's
abbrev pub Spells : List ℕ → Option (List ℕ) → Type 0
Spells bytes answer = MatchOption answer ((numbers : List ℕ) → IsDataOf bytes numbers → ⊥) (IsDataOf bytes)

-- the bytes begin with the stored form of this name, whose numbers are below 2^32
pub record BeginsWithName (bytes : List ℕ) (numbers : List ℕ) : Type 0 where
  pub name : IsName numbers
  pub small : All (λ n. n < 2 ^ 32) numbers
  pub rest : List ℕ
  pub bytes_are : bytes ≡ stored numbers ++ rest

-- what a reader answers: a name whose stored form the bytes begin with, and the length of that form; nothing where
-- they begin with the stored form of no name
abbrev pub Reads : List ℕ → Option (List ℕ × ℕ) → Type 0
Reads bytes answer = MatchOption answer ((numbers : List ℕ) → BeginsWithName bytes numbers → ⊥)
    (λ r. BeginsWithName bytes r.0 × (r.1 ≡ length (stored r.0)))

-- a law: no stored form is a prefix of another one
abbrev pub BeginsAtMostOneName : Type 0
BeginsAtMostOneName = (one other : List ℕ) (xs ys : List ℕ) → stored one ++ xs ≡ stored other ++ ys → (one ≡ other)
    × (xs ≡ ys)

-- a law: where a name was written, a reader's one answer is that name, whatever follows
abbrev pub IsNameReadAgain : Type 0
IsNameReadAgain = (numbers : List ℕ) (rest : List ℕ) (answer : Option (List ℕ × ℕ)) → IsName numbers →
    All (λ n. n < 2 ^ 32) numbers → Reads (stored numbers ++ rest) answer → answer
    ≡ Some (numbers, length (stored numbers))
