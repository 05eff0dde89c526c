-- All uses together, and how many numbers are in use.
use Rattle.std.proofs.Common.{◌≡◌, ℕ, zero, suc, ◌+◌, ◌-◌, ◌<◌, ◌≤◌, ◌==◌, Bool, true, false, cond, Option, Some, None, List, [], ◌∷◌, length, slice_get, is_some, refl, ap, sym, ◌∙◌, arith}
use Rattle.std.proofs.lemmas.Bool.Decides.{nat_tests}
use Rattle.std.proofs.lemmas.List.Sums.{sum_by-cons}
use Rattle.std.specs.List.{sum_by}
use Rattle.std.specs.Cmp.{nat_cmp_total, nat_cmp_is}
use Rattle.std.specs.Ordering.{nat_cmp}
use Rattle.std.specs.declared.cmp.Ordering.TheVariants.{Less}
use Rattle.std.specs.FinMap as map
use Rattle.std.specs.FinMap.{put, entries-insert, len-entries, len-empty, len-insert, len-remove, empty_of_len, get-empty}
use Rattle.symbol_table.specs.declared.slots.Slot.{Slot}
use Rattle.symbol_table.specs.Table.{Table, total, uses_of}
use Rattle.symbol_table.specs.Slots.{Changed}
use Rattle.symbol_table.specs.Kept.{AllUsed, entries_from}
use Rattle.symbol_table.proofs.Counting.{view}

no_entries : (es : List (ℕ × (List ℕ × ℕ))) → length es ≡ 0 → es ≡ []
no_entries [] e = refl
no_entries (x ∷ es) e = absurd (omega arith)

-- an entry below all others goes to the front
front : (k j : ℕ) (v : List ℕ × ℕ) (slots : List Slot) → k < j → put nat_cmp k v (entries_from j slots) ≡ (k, v) ∷ entries_from j slots
front k j v [] below = refl
front k j v (slot ∷ slots) below =
    let less : Less ≡ nat_cmp k j = nat_cmp_is k j Less below in
    elim (slot.uses == 0) as (λ t. put nat_cmp k v (cond t (entries_from (j + 1) slots) ((j, (slot.token, slot.uses)) ∷ entries_from (j + 1) slots)) ≡ (k, v) ∷ cond t (entries_from (j + 1) slots) ((j, (slot.token, slot.uses)) ∷ entries_from (j + 1) slots)) [
      | true ↦ front k (j + 1) v slots (omega arith)
      | false ↦ rw (← less) refl
    ]

entries_view : (k : ℕ) (slots : List Slot) → map.entries (map.from_entries {R = nat_cmp} (entries_from k slots)) ≡ entries_from k slots
entries_view k [] = no_entries (map.entries (map.empty {R = nat_cmp})) (sym (len-entries (map.empty {R = nat_cmp})) ∙ len-empty nat_cmp (List ℕ × ℕ))
entries_view k (slot ∷ slots) =
    elim (slot.uses == 0) as (λ t. map.entries (map.from_entries {R = nat_cmp} (cond t (entries_from (k + 1) slots) ((k, (slot.token, slot.uses)) ∷ entries_from (k + 1) slots))) ≡ cond t (entries_from (k + 1) slots) ((k, (slot.token, slot.uses)) ∷ entries_from (k + 1) slots)) [
      | true ↦ entries_view (k + 1) slots
      | false ↦ entries-insert nat_cmp_total (map.from_entries {R = nat_cmp} (entries_from (k + 1) slots)) k (slot.token, slot.uses)
          ∙ (ap (λ (es : List (ℕ × (List ℕ × ℕ))). put nat_cmp k (slot.token, slot.uses) es) (entries_view (k + 1) slots) ∙ front k (k + 1) (slot.token, slot.uses) slots (omega arith))
    ]

-- the uses of all slots
abbrev pub slot_uses : Slot → ℕ
slot_uses slot = slot.uses

abbrev pub all_uses : List Slot → ℕ
all_uses slots = sum_by slot_uses slots

sum_case : (k : ℕ) (slot : Slot) (rest : List (ℕ × (List ℕ × ℕ))) (t : Bool) → (slot.uses == 0) ≡ t → sum_by uses_of (cond t rest ((k, (slot.token, slot.uses)) ∷ rest)) ≡ slot.uses + sum_by uses_of rest
sum_case k slot rest true e = let none : slot.uses ≡ 0 = grind (arith, nat_tests) in omega arith
sum_case k slot rest false e = sum_by-cons uses_of (k, (slot.token, slot.uses)) rest

sum_entries : (k : ℕ) (slots : List Slot) → sum_by uses_of (entries_from k slots) ≡ all_uses slots
sum_entries k [] = refl
sum_entries k (slot ∷ slots) =
    sum_case k slot (entries_from (k + 1) slots) (slot.uses == 0) refl ∙ (ap (λ (n : ℕ). slot.uses + n) (sum_entries (k + 1) slots) ∙ sym (sum_by-cons slot_uses slot slots))

pub total_view : (slots : List Slot) → total (view slots) ≡ all_uses slots
unfolding total
total_view slots = ap (sum_by uses_of) (entries_view 1 slots) ∙ sum_entries 1 slots

no_slot : (x : Slot) → None ≡ Some x → ⊥
no_slot x e = absurd cc

first_slot : (x y : Slot) → Some x ≡ Some y → x ≡ y
first_slot x y e = cc

-- a slot's uses are among all uses
pub use_le_all : (slots : List Slot) (i : ℕ) (slot : Slot) → slice_get slots i ≡ Some slot → slot.uses ≤ all_uses slots
use_le_all [] i slot e = absurd cc
use_le_all (x ∷ slots) zero slot e =
    let same : x ≡ slot = cc in
    omega (arith, sum_by-cons slot_uses x slots, ap slot_uses same)
use_le_all (x ∷ slots) (suc i) slot e = omega (arith, sum_by-cons slot_uses x slots, use_le_all slots i slot e)

-- where so many slots are in use, there are as many uses
pub used_le_all : (slots : List Slot) (n : ℕ) → AllUsed slots n → n ≤ all_uses slots
used_le_all slots zero used = omega arith
used_le_all [] (suc n) used = let u = used 0 (omega arith) in absurd (no_slot u.0 u.1)
used_le_all (x ∷ slots) (suc n) used =
    let u = used 0 (omega arith) in
    let same : x ≡ u.0 = first_slot x u.0 u.1 in
    let rest = used_le_all slots n (λ i below. used (suc i) (omega arith)) in
    omega (arith, sum_by-cons slot_uses x slots, ap slot_uses same, u.2, rest)

-- the same slots at all places
same_slots : (xs ys : List Slot) → ((i : ℕ) → slice_get ys i ≡ slice_get xs i) → ys ≡ xs
same_slots [] [] same = refl
same_slots [] (y ∷ ys) same = absurd (no_slot y (sym (same 0)))
same_slots (x ∷ xs) [] same = absurd (no_slot x (same 0))
same_slots (x ∷ xs) (y ∷ ys) same =
    let head : y ≡ x = first_slot y x (same 0) in
    let tail : ys ≡ xs = same_slots xs ys (λ i. same (suc i)) in
    cc

-- the uses at a place, and none behind the last
abbrev pub uses_there : Option Slot → ℕ
uses_there None = 0
uses_there (Some slot) = slot.uses

pub changed_all : (xs ys : List Slot) (j : ℕ) (x : Slot) → Changed xs ys j x → all_uses ys + uses_there (slice_get xs j) ≡ all_uses xs + x.uses
changed_all xs [] j x ch = absurd (no_slot x ch.0)
changed_all [] (y ∷ ys) zero x ch =
    let head : y ≡ x = first_slot y x ch.0 in
    let tail : ys ≡ [] = same_slots [] ys (λ i. ch.1 (suc i) (λ e. omega arith)) in
    omega (arith, sum_by-cons slot_uses y ys, ap slot_uses head, ap all_uses tail)
changed_all (z ∷ xs) (y ∷ ys) zero x ch =
    let head : y ≡ x = first_slot y x ch.0 in
    let tail : ys ≡ xs = same_slots xs ys (λ i. ch.1 (suc i) (λ e. omega arith)) in
    omega (arith, sum_by-cons slot_uses y ys, sum_by-cons slot_uses z xs, ap slot_uses head, ap all_uses tail)
changed_all [] (y ∷ ys) (suc j) x ch = absurd (no_slot y (sym (ch.1 0 (λ e. omega arith))))
changed_all (z ∷ xs) (y ∷ ys) (suc j) x ch =
    let head : y ≡ z = first_slot y z (ch.1 0 (λ e. omega arith)) in
    let rest = changed_all xs ys j x (ch.0, λ i ne. ch.1 (suc i) (λ e. ne (omega arith))) in
    omega (arith, sum_by-cons slot_uses y ys, sum_by-cons slot_uses z xs, ap slot_uses head, rest)

-- the table after a slot changed
pub changed_total : (xs ys : List Slot) (j : ℕ) (x : Slot) → Changed xs ys j x → total (view ys) + uses_there (slice_get xs j) ≡ total (view xs) + x.uses
changed_total xs ys j x ch = omega (arith, total_view xs, total_view ys, changed_all xs ys j x ch)

pub len_same : (m : Table) (n : ℕ) (v w : List ℕ × ℕ) → map.get m n ≡ Some v → map.len (map.insert m n w) ≡ map.len m
len_same m n v w e = len-insert nat_cmp_total m n w ∙ ap (λ (o : Option (List ℕ × ℕ)). cond (is_some o) (map.len m) (map.len m + 1)) e

pub len_more : (m : Table) (n : ℕ) (w : List ℕ × ℕ) → map.get m n ≡ None → map.len (map.insert m n w) ≡ map.len m + 1
len_more m n w e = len-insert nat_cmp_total m n w ∙ ap (λ (o : Option (List ℕ × ℕ)). cond (is_some o) (map.len m) (map.len m + 1)) e

pub len_less : (m : Table) (n : ℕ) (v : List ℕ × ℕ) → map.get m n ≡ Some v → map.len (map.remove m n) ≡ map.len m - 1
len_less m n v e = len-remove nat_cmp_total m n ∙ ap (λ (o : Option (List ℕ × ℕ)). cond (is_some o) (map.len m - 1) (map.len m)) e

no_entry : (v : List ℕ × ℕ) → None ≡ Some v → ⊥
no_entry v e = absurd cc

len_case : (m : Table) (n : ℕ) (v : List ℕ × ℕ) → map.get m n ≡ Some v → (k : ℕ) → map.len m ≡ k → 1 ≤ k
len_case m n v e zero none = absurd (no_entry v (sym (ap (λ (x : Table). map.get x n) (empty_of_len m none) ∙ get-empty nat_cmp n) ∙ e))
len_case m n v e (suc k) some = omega arith

pub len_some : (m : Table) (n : ℕ) (v : List ℕ × ℕ) → map.get m n ≡ Some v → 1 ≤ map.len m
len_some m n v e = len_case m n v e (map.len m) refl

length_case : (k : ℕ) (slot : Slot) (rest : List (ℕ × (List ℕ × ℕ))) (t : Bool) → (slot.uses == 0) ≡ t → length (cond t rest ((k, (slot.token, slot.uses)) ∷ rest)) ≤ slot.uses + length rest
length_case k slot rest true e = omega arith
length_case k slot rest false e = let some : 0 < slot.uses = grind (arith, nat_tests) in omega arith

length_entries : (k : ℕ) (slots : List Slot) → length (entries_from k slots) ≤ all_uses slots
length_entries k [] = omega arith
length_entries k (slot ∷ slots) = omega (arith, length_case k slot (entries_from (k + 1) slots) (slot.uses == 0) refl, length_entries (k + 1) slots, sum_by-cons slot_uses slot slots)

-- no more numbers are in use than there are uses
pub len_le_total : (slots : List Slot) → map.len (view slots) ≤ total (view slots)
len_le_total slots = omega (arith, len-entries (view slots), ap length (entries_view 1 slots), length_entries 1 slots, total_view slots)
