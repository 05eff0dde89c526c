-- The first use of a token, which gets the lowest free number.
use Rattle.std.proofs.Common.{◌≡◌, ℕ, ◌+◌, ◌<◌, ◌≤◌, Option, Some, None, length, slice_get, nat_eq, refl, ap, sym, ◌∙◌, arith, inl, inr}
use Rattle.std.proofs.lemmas.Bool.{cases_lt}
use Rattle.std.specs.HashMap.{get, Updates}
use Rattle.std.specs.Cmp.Lexicographic.{pointwise}
use Rattle.std.specs.FinMap as map
use Rattle.symbol_table.specs.declared.slots.Slot.{Slot}
use Rattle.symbol_table.specs.declared.table.SymbolTable.TheInside.{Inside}
use Rattle.symbol_table.specs.declared.table.TheConstants.{MAX_USES}
use Rattle.symbol_table.specs.Table.{Table, uses_at, total, counted}
use Rattle.symbol_table.specs.Slots.{Changed}
use Rattle.symbol_table.specs.Kept.{Kept, AllUsed, shown}
use Rattle.symbol_table.proofs.Counting.{miss_free, miss_kept, miss_counted, unused_get}
use Rattle.symbol_table.proofs.Totals.{total_view, used_le_all, changed_total, uses_there, len_more, len_le_total}

-- the next number fits, since each lower one has a use
pub number_small : (b : Inside) → Kept b → (at : ℕ) → ((i : ℕ) → b.free_from ≤ i → i < at → (s : Slot) × (slice_get b.slots.items i ≡ Some s) × (0 < s.uses)) → at < MAX_USES
number_small b all at used =
    let each : AllUsed b.slots.items at = λ i below. elim (cases_lt i b.free_from) [ inl low ↦ all.indexed.used i low | inr high ↦ used i high below ] in
    omega (arith, used_le_all b.slots.items at each, total_view b.slots.items, all.few)

pub in_use_small : (b : Inside) → Kept b → b.in_use < MAX_USES
in_use_small b all = omega (arith, all.in_use, len_le_total b.slots.items, all.few)

none_there : (o : Option Slot) → ((s : Slot) → o ≡ Some s → s.uses ≡ 0) → uses_there o ≡ 0
none_there None free = refl
none_there (Some s) free = free s refl

module _ (b b' : Inside) (all : Kept b) (at : ℕ) (slot : Slot) (miss : get (pointwise nat_eq) b.index slot.token ≡ None) (one : slot.uses ≡ 1)
    (from : b.free_from ≤ at) (used : (i : ℕ) → b.free_from ≤ i → i < at → (s : Slot) × (slice_get b.slots.items i ≡ Some s) × (0 < s.uses))
    (free : at < length b.slots.items → (s : Slot) × (slice_get b.slots.items at ≡ Some s) × (s.uses ≡ 0))
    (index : Updates (pointwise nat_eq) b.index b'.index slot.token (Some (at + 1))) (next : b'.free_from ≡ at + 1) (ch : Changed b.slots.items b'.slots.items at slot) where
  none : (s : Slot) → slice_get b.slots.items at ≡ Some s → s.uses ≡ 0
  none = miss_free b b' all.indexed at slot miss one from used free

  pub new_shown : shown b' ≡ counted (shown b) slot.token (at + 1)
  new_shown = miss_counted b b' all.indexed at slot miss one from used free index next ch

  pub new_total : total (shown b') ≡ total (shown b) + 1
  new_total = omega (arith, one, none_there (slice_get b.slots.items at) none, changed_total b.slots.items b'.slots.items at slot ch)

  new_len : map.len (shown b') ≡ map.len (shown b) + 1
  new_len = ap (λ (m : Table). map.len m) new_shown ∙ len_more (shown b) (at + 1) (slot.token, uses_at (shown b) (at + 1) + 1) (unused_get b.slots.items at none)

  pub new_kept : b'.in_use ≡ b.in_use + 1 → total (shown b) + 1 < MAX_USES → Kept b'
  new_kept in_use room = record {
    indexed = miss_kept b b' all.indexed at slot miss one from used free index next ch;
    in_use = in_use ∙ (ap (λ (k : ℕ). k + 1) all.in_use ∙ sym new_len);
    few = omega (arith, new_total, room);
  }
