-- What every table keeps, and the empty table.
use Rattle.std.proofs.Common.{◌≡◌, ℕ, ◌+◌, Some, None, List, [], nat_eq, ap, sym, ◌∙◌, subst, arith}
use Rattle.std.specs.HashMap.{get}
use Rattle.std.specs.Cmp.Lexicographic.{pointwise}
use Rattle.std.specs.FinMap as map
use Rattle.std.specs.FinMap.{len-empty}
use Rattle.std.specs.Ordering.{nat_cmp}
use Rattle.symbol_table.specs.declared.slots.Slot.{Slot}
use Rattle.symbol_table.specs.declared.table.SymbolTable.TheInside.{Inside}
use Rattle.symbol_table.specs.Table.{Holds, IsTable}
use Rattle.symbol_table.specs.Kept.{Indexed, Kept, shown}
use Rattle.symbol_table.specs.Table.{total}
use Rattle.symbol_table.proofs.Counting.{view_zero, view_positive, held_slot, view, kept_same}
use Rattle.symbol_table.proofs.Totals.{total_view, all_uses}

listed_at : (b : Inside) → Indexed b → (token : List ℕ) (n : ℕ) → Holds (shown b) token n → get (pointwise nat_eq) b.index token ≡ Some n
listed_at b kept token n h =
    let s = held_slot b.slots.items token n h in
    let l = kept.listed s.0 s.1 s.3 s.5 in
    let t : get (pointwise nat_eq) b.index token ≡ Some (s.0 + 1) = subst (λ (w : List ℕ). get (pointwise nat_eq) b.index w ≡ Some (s.0 + 1)) s.4 l in
    t ∙ ap (λ (k : ℕ). Some k) (sym s.2)

number_same : (m n : ℕ) → Some m ≡ Some n → m ≡ n
number_same m n e = cc

pub is_table : (b : Inside) → Kept b → IsTable (shown b)
is_table b kept = record {
  from_one = view_zero b.slots.items;
  used = view_positive b.slots.items;
  distinct = λ token m n h k. number_same m n (sym (listed_at b kept.indexed token m h) ∙ listed_at b kept.indexed token n k);
  few = kept.few;
}

index_none : (n : ℕ) → None ≡ Some n → ⊥
index_none n e = absurd cc

no_slot : (x : Slot) → None ≡ Some x → ⊥
no_slot x e = absurd cc

abbrev no_slots : List Slot
no_slots = []

len_nothing : map.len (view no_slots) ≡ 0
len_nothing = len-empty nat_cmp (List ℕ × ℕ)

all_nothing : (slots : List Slot) → slots ≡ [] → all_uses slots ≡ 0
all_nothing slots e = ap all_uses e

-- the fields of a table without tokens
pub empty_kept : (b : Inside) → b.slots.items ≡ [] → b.index.entries ≡ [] → b.free_from ≡ 0 → b.in_use ≡ 0 → Kept b
empty_kept b slots index from in_use = record {
  indexed = record {
    found = λ token n hit. absurd (index_none n (rw index at hit));
    listed = λ i slot here some. absurd (no_slot slot (rw slots at here));
    used = λ i below. absurd (omega (arith, from));
  };
  in_use = in_use ∙ sym (rw slots len_nothing);
  few = omega (arith, total_view b.slots.items, all_nothing b.slots.items slots);
}

-- the invariant does not see where the slots lie
pub same_kept : (b b' : Inside) → b'.slots.items ≡ b.slots.items → b'.index.entries ≡ b.index.entries → b'.free_from ≡ b.free_from → b'.in_use ≡ b.in_use → Kept b → Kept b'
same_kept b b' slots index from in_use kept = record {
  indexed = kept_same b b' slots index from kept.indexed;
  in_use = in_use ∙ (kept.in_use ∙ sym (ap (λ (l : List Slot). map.len (view l)) slots));
  few = omega (arith, kept.few, ap (λ (l : List Slot). total (view l)) slots);
}

pub total_empty : (slots : List Slot) → slots ≡ [] → total (view slots) ≡ 0
total_empty slots e = total_view slots ∙ all_nothing slots e
