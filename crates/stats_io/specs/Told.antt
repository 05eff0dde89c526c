-- Contents that a source or a shelf may tell.
use Rattle.std.specs.Prelude.{◌≡◌, ℕ, Option, Some, None, List}

-- these are the bytes, where they are told
abbrev pub MayBe : Option (List ℕ) → List ℕ → Type 0
MayBe None bytes = Unit {0}
MayBe (Some told) bytes = told ≡ bytes
