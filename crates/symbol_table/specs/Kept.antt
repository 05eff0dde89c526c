-- What the fields of a symbol table keep.
use Rattle.std.specs.Prelude.{◌≡◌, ℕ, ◌+◌, ◌<◌, ◌==◌, nat_eq, if◌then◌else◌, Some, List, [], ◌∷◌, slice_get}
use Rattle.std.specs.HashMap.{get}
use Rattle.std.specs.Cmp.Lexicographic.{pointwise}
use Rattle.std.specs.FinMap as map
use Rattle.symbol_table.specs.declared.table.SymbolTable.TheInside.{Inside}
use Rattle.symbol_table.specs.declared.table.TheConstants.{MAX_USES}
use Rattle.symbol_table.specs.declared.slots.Slot.{Slot}
use Rattle.symbol_table.specs.Slots.{IsListed}
use Rattle.symbol_table.specs.Table.{Table, total}

-- the entries of the slots with a use, where the first slot has this number
abbrev pub entries_from : ℕ → List Slot → List (ℕ × (List ℕ × ℕ))
entries_from n [] = []
entries_from n (slot ∷ slots) = if slot.uses == 0 then entries_from (n + 1) slots else (n, (slot.token, slot.uses))
    ∷ entries_from (n + 1) slots

abbrev pub shown : Inside → Table
shown b = map.from_entries (entries_from 1 b.slots.items)

-- the slots below this place are all in use
abbrev pub AllUsed : List Slot → ℕ → Type 0
AllUsed slots n = (i : ℕ) → i < n → (slot : Slot) × (slice_get slots i ≡ Some slot) × (0 < slot.uses)

-- the index lists exactly the tokens in use under their numbers, and the search for a free slot may begin at
-- `free_from`
pub record Indexed (b : Inside) : Type 0 where
  pub found : (token : List ℕ) (n : ℕ) → get (pointwise nat_eq) b.index token ≡ Some n
      → IsListed b.slots.items n token
  pub listed : (i : ℕ) (slot : Slot) → slice_get b.slots.items i ≡ Some slot → 0 < slot.uses
      → get (pointwise nat_eq) b.index slot.token ≡ Some (i + 1)
  pub used : AllUsed b.slots.items b.free_from

pub record Kept (b : Inside) : Type 0 where
  pub indexed : Indexed b
  pub in_use : b.in_use ≡ map.len (shown b)
  pub few : total (shown b) < MAX_USES
