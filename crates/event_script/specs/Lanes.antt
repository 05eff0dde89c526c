-- What one load of bytes says of those that stand first.
use Rattle.std.specs.Prelude.{◌≡◌, ℕ, ◌+◌, if◌then◌else◌, ◌<◌, ◌≤◌, ◌==◌, Bool, true, false, List, length, take}
use Rattle.std.specs.Prelude.{slice_index}
use Rattle.std.specs.List.{list_all}
use Rattle.std.specs.Int.{w64, trailing_zeros}

-- the bytes from at up to end pass the test
abbrev pub AllPassBetween : (ℕ → Bool) → List ℕ → ℕ → ℕ → Type 0
AllPassBetween test text at end = (k : ℕ) → at ≤ k → k < end → test (slice_index text k) ≡ true

-- the first run bytes of the n from at pass the test, and the next one of the n fails it
abbrev pub IsStretchIn : (ℕ → Bool) → List ℕ → ℕ → ℕ → ℕ → Type 0
IsStretchIn test text at n run =
    ((run ≤ n) × AllPassBetween test text at (at + run)) × (run < n → test (slice_index text (at + run)) ≡ false)

-- the place of the lowest bit that is set, or n
abbrev pub first_set : ℕ → ℕ → ℕ
first_set mask n = if mask == 0 then n else trailing_zeros w64 mask

-- so many bytes stand first that pass the test
abbrev pub IsFront : (ℕ → Bool) → List ℕ → ℕ → Type 0
IsFront test text count = (count ≤ length text) × AllPassBetween test text 0 count

-- so many bytes that pass the test stand first, and then one that doesn't or none
pub record IsStretchOf (test : ℕ → Bool) (text : List ℕ) (count : ℕ) : Type 0 where
  pub within : count ≤ length text
  pub pass : list_all test (take count text) ≡ true
  pub longest : count < length text → test (slice_index text count) ≡ false
