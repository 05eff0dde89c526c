use Rattle.std.proofs.Common.{◌≡◌, ℕ, ◌+◌, ◌<◌, ◌≤◌, Some, None, List, length, slice_get, nat_eq, refl, ap, sym, ◌∙◌, subst, arith}
use Rattle.std.specs.HashMap.{get, Updates}
use Rattle.std.specs.Cmp.Lexicographic.{pointwise}
use Rattle.symbol_table.specs.declared.slots.Slot.{Slot}
use Rattle.symbol_table.specs.Drawing.{Draws}
use Rattle.symbol_table.specs.Table.{Table, Holds, total, counted}
use Rattle.symbol_table.specs.Slots.{Changed}
use Rattle.symbol_table.proofs.Counting.{unlisted, used_within, miss_drawn}
use Rattle.symbol_table.proofs.Misses.{number_small, in_use_small, new_shown, new_total, new_kept}
use Rattle.symbol_table.proofs.Whole.{same_kept}
use Rattle.symbol_table.proofs.table.SymbolTable.add_token.Goals as goal
use Rattle.symbol_table.proofs.table.SymbolTable.add_token.Goals.{After-next_free-at, After-write_slot}

pub next_free-at-requires : goal.next_free-at-requires
next_free-at-requires c = rw c.deref.ensures.value (used_within c.self.inside.slots.items c.self.inside.free_from c.self.invariant.indexed.used)

small : (c : After-next_free-at) → c.next_free-at.result < 16777216
small c = number_small c.self.inside c.self.invariant c.next_free-at.result
    (subst (λ (l : List Slot). (i : ℕ) → c.self.inside.free_from ≤ i → i < c.next_free-at.result → (s : Slot) × (slice_get l i ≡ Some s) × (0 < s.uses)) c.deref.ensures.value c.next_free-at.ensures.used)

pub overflow_cast-n : goal.overflow_cast-n
overflow_cast-n c = omega (arith, small c)

pub overflow_add-n : goal.overflow_add-n
overflow_add-n c = omega (arith, small c)

pub invariant_of-self : goal.invariant_of-self
invariant_of-self c = same_kept c.self.inside _ c.reserve.ensures.items refl refl refl c.self.invariant

pub invariant_of-self-in_err-list_token : goal.invariant_of-self-in_err-list_token
invariant_of-self-in_err-list_token c = same_kept c.self.inside _ c.reserve.ensures.items c.in_err-list_token.ensures.err refl refl c.self.invariant

pub overflow_add-self-2 : goal.overflow_add-self-2
overflow_add-self-2 c = omega (arith, in_use_small c.self.inside c.self.invariant)

-- what is known once the slot was written
module _ (c : After-write_slot) where
  miss_of : get (pointwise nat_eq) c.self.inside.index c.args.token ≡ None
  miss_of = unlisted c.self.inside c.self.invariant.indexed c.args.token (subst (λ (t : Table). (n : ℕ) → Holds t c.args.token n → ⊥) (sym c.self.view_is) c.requires.new)

  used_of : (i : ℕ) → c.self.inside.free_from ≤ i → i < c.next_free-at.result → (s : Slot) × (slice_get c.self.inside.slots.items i ≡ Some s) × (0 < s.uses)
  used_of = subst (λ (l : List Slot). (i : ℕ) → c.self.inside.free_from ≤ i → i < c.next_free-at.result → (s : Slot) × (slice_get l i ≡ Some s) × (0 < s.uses)) c.deref.ensures.value c.next_free-at.ensures.used

  free_of : c.next_free-at.result < length c.self.inside.slots.items → (s : Slot) × (slice_get c.self.inside.slots.items c.next_free-at.result ≡ Some s) × (s.uses ≡ 0)
  free_of = subst (λ (l : List Slot). c.next_free-at.result < length l → (s : Slot) × (slice_get l c.next_free-at.result ≡ Some s) × (s.uses ≡ 0)) c.deref.ensures.value c.next_free-at.ensures.free

  changed_of : Changed c.self.inside.slots.items c.write_slot.new.slots.items c.next_free-at.result (record { token = c.args.token; uses = 1 })
  changed_of =
      let h : Changed c.reserve.new.self.items c.write_slot.new.slots.items c.next_free-at.result (record { token = c.in_ok-text.text; uses = 1 }) = c.write_slot.ensures in
      subst (λ (t : List ℕ). Changed c.self.inside.slots.items c.write_slot.new.slots.items c.next_free-at.result (record { token = t; uses = 1 })) (c.in_ok-text.ensures ∙ c.bytes.ensures)
      (subst (λ (l : List Slot). Changed l c.write_slot.new.slots.items c.next_free-at.result (record { token = c.in_ok-text.text; uses = 1 })) c.reserve.ensures.items h)

  index_of : Updates (pointwise nat_eq) c.self.inside.index c.list_token.new.index c.args.token (Some (c.next_free-at.result + 1))
  index_of = c.in_ok-list_token.ensures.ok

pub invariant_of-self-2 : goal.invariant_of-self-2
invariant_of-self-2 c = let d = (goal.at.invariant_of-self-2 c).After-write_slot in
    new_kept c.self.inside _ c.self.invariant c.next_free-at.result (record { token = c.args.token; uses = 1 }) (miss_of d) refl c.next_free-at.ensures.from (used_of d) (free_of d) (index_of d) refl (changed_of d) refl (rw c.self.view_is c.requires.room)

pub returns-clause-drawn : goal.returns-clause-drawn
returns-clause-drawn c = let d = (goal.at.returns-clause-drawn c).After-write_slot in
    subst (λ (t : Table). Draws (Holds t) c.args.token (c.next_free-at.result + 1)) c.self.view_is
    (miss_drawn c.self.inside c.self.inside c.self.invariant.indexed c.next_free-at.result (record { token = c.args.token; uses = 1 }) (miss_of d) refl c.next_free-at.ensures.from (used_of d) (free_of d))

pub returns-clause-counted : goal.returns-clause-counted
returns-clause-counted c = let d = (goal.at.returns-clause-counted c).After-write_slot in
    new_shown c.self.inside (record { slots = c.write_slot.new.slots; index = c.list_token.new.index; free_from = c.next_free-at.result + 1; in_use = c.self.inside.in_use + 1; recent = c.self.inside.recent }) c.self.invariant c.next_free-at.result (record { token = c.args.token; uses = 1 }) (miss_of d) refl c.next_free-at.ensures.from (used_of d) (free_of d) (index_of d) refl (changed_of d)
    ∙ ap (λ (t : Table). counted t c.args.token (c.next_free-at.result + 1)) c.self.view_is

pub returns-clause-total : goal.returns-clause-total
returns-clause-total c = let d = (goal.at.returns-clause-total c).After-write_slot in
    new_total c.self.inside (record { slots = c.write_slot.new.slots; index = c.list_token.new.index; free_from = c.next_free-at.result + 1; in_use = c.self.inside.in_use + 1; recent = c.self.inside.recent }) c.self.invariant c.next_free-at.result (record { token = c.args.token; uses = 1 }) (miss_of d) refl c.next_free-at.ensures.from (used_of d) (free_of d) (index_of d) refl (changed_of d)
    ∙ ap (λ (t : Table). total t + 1) c.self.view_is
