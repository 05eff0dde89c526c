-- How a number is spelled (Envoy's design note on statistics: symbols are written in groups of seven bits).
use Rattle.std.specs.Prelude.{◌≡◌, ℕ, ◌+◌, ◌<◌, ◌^◌, ◌==◌, if◌then◌else◌, Option, Some, MatchOption, List, [], ◌∷◌}
use Rattle.std.specs.Prelude.{◌++◌, length, reverse}
use Rattle.std.specs.Int.Digits.{digits_of}

-- the groups of a number: its digits to the base 128, the low one first, and one 0 for the number 0
abbrev pub groups : ℕ → List ℕ
groups n = if n == 0 then 0 ∷ [] else reverse (digits_of 128 n)

-- 128 is added to every group but the last
abbrev pub marked : List ℕ → List ℕ
marked [] = []
marked (d ∷ []) = d ∷ []
marked (d ∷ e ∷ ds) = (d + 128) ∷ marked (e ∷ ds)

-- the spelling of a number; only numbers below 2^32 are written
unfoldable pub spelling : ℕ → List ℕ
spelling n = marked (groups n)

-- the bytes begin with the spelling of a number below 2^32
pub record BeginsWith (bytes : List ℕ) (n : ℕ) : Type 0 where
  pub small : n < 2 ^ 32
  pub rest : List ℕ
  pub bytes_are : bytes ≡ spelling n ++ rest

-- what a reader answers: a number whose spelling the bytes begin with, and the length of that spelling; nothing where
-- they begin with the spelling of no number
abbrev pub Takes : List ℕ → Option (ℕ × ℕ) → Type 0
Takes bytes answer = MatchOption answer ((n : ℕ) → BeginsWith bytes n → ⊥)
    (λ r. BeginsWith bytes r.0 × (r.1 ≡ length (spelling r.0)))

-- a law: no spelling is a prefix of another one
abbrev pub BeginsAtMostOne : Type 0
BeginsAtMostOne = (m n : ℕ) (xs ys : List ℕ) → spelling m ++ xs ≡ spelling n ++ ys → (m ≡ n) × (xs ≡ ys)

-- a law: where a spelling was written, a reader's one answer is that number, whatever follows
abbrev pub IsReadAgain : Type 0
IsReadAgain = (n : ℕ) (rest : List ℕ) (answer : Option (ℕ × ℕ)) → n < 2 ^ 32 → Takes (spelling n ++ rest) answer
    → answer ≡ Some (n, length (spelling n))
