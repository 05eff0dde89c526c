-- Which numbers the tokens of a name may get (Envoy's design note on statistics: tokens are shared by all names, and
-- freed symbols are used again; that no higher number is drawn while a lower one is free is this project's own).
use Rattle.std.specs.Prelude.{◌≡◌, ℕ, ◌<◌, ◌⊎◌, List, [], ◌∷◌}

-- the number is in use by some token, where `uses t k` says that token t is in use under number k
abbrev pub InUse : (List ℕ → ℕ → Type 0) → ℕ → Type 0
InUse uses n = (token : List ℕ) × uses token n

-- The number that a token may get. A token in use keeps its number. Any other gets a number from 1 on that is not in
-- use, and one above all numbers in use only where every lower number is in use.
pub record Draws (uses : List ℕ → ℕ → Type 0) (token : List ℕ) (n : ℕ) : Type 0 where
  pub kept : (k : ℕ) → uses token k → n ≡ k
  pub fresh : ((k : ℕ) → uses token k → ⊥) → (0 < n) × (InUse uses n → ⊥)
  pub lowest : ((k : ℕ) → InUse uses k → k < n) → (k : ℕ) → 0 < k → k < n → InUse uses k

-- the uses, and this token under this number
abbrev pub with_use : (List ℕ → ℕ → Type 0) → List ℕ → ℕ → List ℕ → ℕ → Type 0
with_use uses token n t k = uses t k ⊎ ((t ≡ token) × (k ≡ n))

-- the tokens of a new name get these numbers, from left to right
abbrev pub DrawsAll : (List ℕ → ℕ → Type 0) → List (List ℕ) → List ℕ → Type 0
DrawsAll uses [] [] = Unit {0}
DrawsAll uses (t ∷ ts) (n ∷ ns) = Draws uses t n × DrawsAll (with_use uses t n) ts ns
DrawsAll uses [] (n ∷ ns) = ⊥
DrawsAll uses (t ∷ ts) [] = ⊥

-- two relations say the same of every token and number
pub record Same (uses other : List ℕ → ℕ → Type 0) : Type 0 where
  pub to : (t : List ℕ) (n : ℕ) → uses t n → other t n
  pub from : (t : List ℕ) (n : ℕ) → other t n → uses t n
