-- The order of rows: full names in byte order, and members of one name as they stand. This project's own.
use Rattle.std.specs.Prelude.{◌≡◌, ℕ, if◌then◌else◌, Bool, List, [], ◌∷◌, IsSortedByKey}
use Rattle.std.specs.List.Sorted.{IsStableByKey}
use Rattle.std.specs.Ordering.{nat_cmp, is_lt}
use Rattle.std.specs.Cmp.Lexicographic.{slice_cmp}

-- the name of one comes before that of the other
abbrev pub comes_before : {X : Type 0} → (X → List ℕ) → X → X → Bool
comes_before name one other = is_lt (slice_cmp nat_cmp (name one) (name other))

-- a member put behind all whose names come before its own
abbrev pub put_by_name : {X : Type 0} → (X → List ℕ) → X → List X → List X
put_by_name name x [] = x ∷ []
put_by_name name x (y ∷ ys) = if comes_before name y x then y ∷ put_by_name name x ys else x ∷ y ∷ ys

abbrev pub by_name : {X : Type 0} → (X → List ℕ) → List X → List X
by_name name [] = []
by_name name (x ∷ xs) = put_by_name name x (by_name name xs)

-- that is the one list in which names do not fall and members of one name stand as before
pub record SortsByName (X : Type 0) (name : X → List ℕ) : Type 0 where
  pub sorted : (xs : List X) → IsSortedByKey name (slice_cmp nat_cmp) (by_name name xs)
  pub stable : (xs : List X) → IsStableByKey name (slice_cmp nat_cmp) xs (by_name name xs)
  pub only : (xs ys : List X) → IsSortedByKey name (slice_cmp nat_cmp) ys
      → IsStableByKey name (slice_cmp nat_cmp) xs ys → ys ≡ by_name name xs
