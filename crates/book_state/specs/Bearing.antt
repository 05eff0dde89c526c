-- Which metrics a scope bears, and which scopes bear a metric. This project's own.
use Rattle.std.specs.Prelude.{◌≡◌, ℕ, nat_eq, Bool, false, List, [], ◌∷◌, ◌++◌, if◌then◌else◌, slice_get}
use Rattle.std.specs.List.{list_any}
use Rattle.std.specs.Option.{option_map_or}
use Rattle.book_state.specs.State.{Row, bears}

abbrev pub has : ℕ → List ℕ → Bool
has k ks = list_any (nat_eq k) ks

-- the numbers, with one more where it is not among them
abbrev pub with_number : ℕ → List ℕ → List ℕ
with_number k ks = if has k ks then ks else ks ++ k ∷ []

-- no number stands twice
abbrev pub NoDoubles : List ℕ → Type 0
NoDoubles [] = Unit {0}
NoDoubles (k ∷ ks) = (has k ks ≡ false) × NoDoubles ks

-- the scope bears the metric of this number
abbrev pub bears_at : ℕ → List Row → ℕ → Bool
bears_at scope rows id = option_map_or (bears scope) (slice_get rows id) false
