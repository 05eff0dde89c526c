-- Slots of which one changed, or to which one was appended, and a number with its token.
use Rattle.std.specs.Prelude.{◌≡◌, ◌≢◌, ◌+◌, ◌<◌, ℕ, Some, List, slice_get}
use Rattle.symbol_table.specs.declared.slots.Slot.{Slot}

abbrev pub Changed : List Slot → List Slot → ℕ → Slot → Type 0
Changed slots slots' j x = (slice_get slots' j ≡ Some x) × ((i : ℕ) → i ≢ j → slice_get slots' i ≡ slice_get slots i)

-- the number is in use and has this token
abbrev pub IsListed : List Slot → ℕ → List ℕ → Type 0
IsListed slots n token = (i : ℕ) × (slot : Slot) × (n ≡ i + 1) × (slice_get slots i ≡ Some slot) × (slot.token ≡ token)
    × (0 < slot.uses)
