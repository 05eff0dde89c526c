-- One use more and one use less, in the slots and in the table that callers see.
use Rattle.std.proofs.Common.{◌≡◌, ℕ, ◌+◌, ◌-◌, ◌^◌, ◌<◌, ◌≤◌, ◌==◌, Bool, true, false, Some, None, List, length, slice_get, nat_eq, min, refl, ap, sym, ◌∙◌, subst, arith}
use Rattle.std.specs.HashMap.{Updates}
use Rattle.std.specs.Cmp.Lexicographic.{pointwise}
use Rattle.std.specs.FinMap as map
use Rattle.symbol_table.specs.declared.slots.Slot.{Slot}
use Rattle.symbol_table.specs.declared.table.SymbolTable.TheInside.{Inside}
use Rattle.symbol_table.specs.declared.table.TheConstants.{MAX_USES}
use Rattle.symbol_table.specs.Table.{Table, uses_at, token_in, total, counted_again, uncounted}
use Rattle.symbol_table.specs.Slots.{Changed}
use Rattle.symbol_table.specs.Kept.{Indexed, Kept, shown}
use Rattle.symbol_table.proofs.Counting.{within_get, slot_got, uses_of_got, token_of_got, used_slot, one_of, two_of, kept_hit, kept_drop, view_insert, view_remove}
use Rattle.symbol_table.proofs.Totals.{total_view, use_le_all, changed_total, uses_there, len_same, len_less, len_some}

-- a number in use, and its slot
module _ (b : Inside) (kept : Indexed b) (n : ℕ) (some : 0 < uses_at (shown b) n) where
  slot : Slot
  slot = (used_slot b.slots.items n some).0

  above : n - 1 + 1 ≡ n
  above = sym (used_slot b.slots.items n some).1

  here : slice_get b.slots.items (n - 1) ≡ Some slot
  unfolding slot
  here = (used_slot b.slots.items n some).2

  positive : 0 < slot.uses
  unfolding slot
  positive = (used_slot b.slots.items n some).3

  got : map.get (shown b) n ≡ Some (slot.token, slot.uses)
  got = subst (λ (k : ℕ). map.get (shown b) k ≡ Some (slot.token, slot.uses)) above (slot_got b.slots.items (n - 1) slot here positive)

  uses_are : uses_at (shown b) n ≡ slot.uses
  uses_are = uses_of_got (shown b) n (slot.token, slot.uses) got

  token_is : token_in (shown b) n ≡ slot.token
  token_is = token_of_got (shown b) n (slot.token, slot.uses) got

  pub use_positive : 1 ≤ n
  use_positive = omega (arith, above)

  pub use_within : n - 1 < length b.slots.items
  use_within = within_get b.slots.items (n - 1) slot here

  slot_is : (s : Slot) → slice_get b.slots.items (n - 1) ≡ Some s → slot ≡ s
  slot_is s at = let e : Some slot ≡ Some s = sym here ∙ at in cc

  pub use_some : (s : Slot) → slice_get b.slots.items (n - 1) ≡ Some s → 0 < s.uses
  use_some s at = subst (λ (s : Slot). 0 < s.uses) (slot_is s at) positive

  pub use_room : total (shown b) + 1 < MAX_USES → (s : Slot) → slice_get b.slots.items (n - 1) ≡ Some s → s.uses + 1 < 2 ^ 32
  use_room few s at = omega (arith, few, total_view b.slots.items, use_le_all b.slots.items (n - 1) s at)

  pub use_token : (text : List ℕ) → ((s : Slot) → slice_get b.slots.items (n - 1) ≡ Some s → text ≡ s.token) → text ≡ token_in (shown b) n
  use_token text is = is slot here ∙ sym token_is

  pub in_use_some : b.in_use ≡ map.len (shown b) → 1 ≤ b.in_use
  in_use_some is = omega (arith, is, len_some (shown b) n (slot.token, slot.uses) got)

  there : uses_there (slice_get b.slots.items (n - 1)) ≡ slot.uses
  there = ap uses_there here

  -- a use more
  module _ (b' : Inside) (ch : (s : Slot) → slice_get b.slots.items (n - 1) ≡ Some s → Changed b.slots.items b'.slots.items (n - 1) (record s { uses = s.uses + 1 })) where
    more_indexed : b'.index ≡ b.index → b'.free_from ≡ b.free_from → Indexed b'
    more_indexed index from = kept_hit b b' kept (n - 1) slot here positive (slot.uses + 1) (omega arith) index from (ch slot here)

    more_insert : shown b' ≡ map.insert (shown b) n (slot.token, slot.uses + 1)
    more_insert =
        view_insert b.slots.items b'.slots.items (n - 1) (record slot { uses = slot.uses + 1 }) (ch slot here) (omega arith)
        ∙ ap (λ (k : ℕ). map.insert (shown b) k (slot.token, slot.uses + 1)) above

    pub more_shown : shown b' ≡ counted_again (shown b) n
    more_shown = rw (token_is, uses_are) more_insert

    pub more_total : total (shown b') ≡ total (shown b) + 1
    more_total = omega (arith, there, changed_total b.slots.items b'.slots.items (n - 1) (record slot { uses = slot.uses + 1 }) (ch slot here))

    more_len : map.len (shown b') ≡ map.len (shown b)
    more_len = ap (λ (m : Table). map.len m) more_insert ∙ len_same (shown b) n (slot.token, slot.uses) (slot.token, slot.uses + 1) got

    pub more_kept : b'.index ≡ b.index → b'.free_from ≡ b.free_from → b'.in_use ≡ b.in_use → b.in_use ≡ map.len (shown b) → total (shown b) + 1 < MAX_USES → Kept b'
    more_kept index from in_use len few = record {
      indexed = more_indexed index from;
      in_use = in_use ∙ (len ∙ sym more_len);
      few = omega (arith, more_total);
    }

  -- a use less
  module _ (b' : Inside) (t : Bool) (ch : (s : Slot) → slice_get b.slots.items (n - 1) ≡ Some s → Changed b.slots.items b'.slots.items (n - 1) (record s { uses = s.uses - 1 }))
      (last : (s : Slot) → slice_get b.slots.items (n - 1) ≡ Some s → t ≡ (s.uses == 1)) where
    pub less_within : n - 1 < length b'.slots.items
    less_within = within_get b'.slots.items (n - 1) (record slot { uses = slot.uses - 1 }) (ch slot here).0

    pub less_total : total (shown b') + 1 ≡ total (shown b)
    less_total = omega (arith, there, positive, changed_total b.slots.items b'.slots.items (n - 1) (record slot { uses = slot.uses - 1 }) (ch slot here))

    test_is : (uses_at (shown b) n == 1) ≡ t
    test_is = ap (λ (u : ℕ). u == 1) uses_are ∙ sym (last slot here)

    -- the last use
    module _ (gone : t ≡ true) where
      one : slot.uses ≡ 1
      one = one_of slot.uses (sym (last slot here) ∙ gone)

      ch_gone : Changed b.slots.items b'.slots.items (n - 1) (record slot { uses = 0 })
      ch_gone = let z : slot.uses - 1 ≡ 0 = omega (arith, one) in subst (λ (u : ℕ). Changed b.slots.items b'.slots.items (n - 1) (record slot { uses = u })) z (ch slot here)

      gone_remove : shown b' ≡ map.remove (shown b) n
      gone_remove = view_remove b.slots.items b'.slots.items (n - 1) (record slot { uses = 0 }) ch_gone refl ∙ ap (λ (k : ℕ). map.remove (shown b) k) above

      pub gone_shown : shown b' ≡ uncounted (shown b) n
      gone_shown = let e : (uses_at (shown b) n == 1) ≡ true = test_is ∙ gone in rw e gone_remove

      gone_len : map.len (shown b') ≡ map.len (shown b) - 1
      gone_len = ap (λ (m : Table). map.len m) gone_remove ∙ len_less (shown b) n (slot.token, slot.uses) got

      pub gone_kept : Kept b → ((s : Slot) → slice_get b'.slots.items (n - 1) ≡ Some s → Updates (pointwise nat_eq) b.index b'.index s.token None) → b'.free_from ≡ min b.free_from (n - 1) → b'.in_use ≡ b.in_use - 1 → Kept b'
      gone_kept all index from in_use = record {
        indexed = kept_drop b b' kept (n - 1) slot here positive (index (record slot { uses = slot.uses - 1 }) (ch slot here).0) from ch_gone;
        in_use = in_use ∙ (ap (λ (k : ℕ). k - 1) all.in_use ∙ sym gone_len);
        few = omega (arith, less_total, all.few);
      }

    -- not the last one
    module _ (left : t ≡ false) where
      still : 0 < slot.uses - 1
      still = two_of slot.uses positive (sym (last slot here) ∙ left)

      left_insert : shown b' ≡ map.insert (shown b) n (slot.token, slot.uses - 1)
      left_insert =
          view_insert b.slots.items b'.slots.items (n - 1) (record slot { uses = slot.uses - 1 }) (ch slot here) still
          ∙ ap (λ (k : ℕ). map.insert (shown b) k (slot.token, slot.uses - 1)) above

      pub left_shown : shown b' ≡ uncounted (shown b) n
      left_shown = let e : (uses_at (shown b) n == 1) ≡ false = test_is ∙ left in rw (e, token_is, uses_are) left_insert

      left_len : map.len (shown b') ≡ map.len (shown b)
      left_len = ap (λ (m : Table). map.len m) left_insert ∙ len_same (shown b) n (slot.token, slot.uses) (slot.token, slot.uses - 1) got

      pub left_kept : Kept b → b'.index ≡ b.index → b'.free_from ≡ b.free_from → b'.in_use ≡ b.in_use → Kept b'
      left_kept all index from in_use = record {
        indexed = kept_hit b b' kept (n - 1) slot here positive (slot.uses - 1) still index from (ch slot here);
        in_use = in_use ∙ (all.in_use ∙ sym left_len);
        few = omega (arith, less_total, all.few);
      }
