-- One use more of a token, in the slots and in the table that callers see.
use Rattle.std.proofs.Common.{◌≡◌, ◌≢◌, ℕ, zero, suc, ◌+◌, ◌-◌, ◌<◌, ◌≤◌, ◌==◌, Bool, true, false, cond, Option, Some, None, List, [], ◌∷◌, ◌++◌, length, slice_get, get_or, set, nat_eq, min, refl, ap, sym, ◌∙◌, subst, arith, inl, inr, ◌⊎◌, add-one}
use Rattle.std.proofs.lemmas.Bool.Decides.{nat_tests}
use Rattle.std.proofs.lemmas.Bool.{cases_lt}
use Rattle.std.proofs.lemmas.Slice.Eq.{bytes_eq-Decides}
use Rattle.std.specs.HashMap.{get, Updates}
use Rattle.std.specs.Cmp.Lexicographic.{pointwise}
use Rattle.std.specs.Cmp.{nat_cmp_total, nat_cmp_is}
use Rattle.std.specs.Ordering.{nat_cmp, eq_by_cmp}
use Rattle.std.specs.declared.cmp.Ordering.TheVariants.{Less, Equal, Greater}
use Rattle.std.specs.FinMap as map
use Rattle.std.specs.FinMap.{find, get-from_entries, get-insert, get-remove, same_map, nat_cmp-IsAntisymmetric}
use Rattle.symbol_table.specs.declared.slots.Slot.{Slot}
use Rattle.symbol_table.specs.declared.table.SymbolTable.TheInside.{Inside}
use Rattle.symbol_table.specs.Drawing.{Draws, InUse}
use Rattle.symbol_table.specs.Table.{Table, Holds, uses_at, token_in, counted}
use Rattle.symbol_table.specs.Slots.{Changed, IsListed}
use Rattle.symbol_table.specs.Kept.{Indexed, AllUsed, entries_from, shown}

pub get_here : (xs : List Slot) (i : ℕ) (x : Slot) → i < length xs → x ≡ get_or xs i x → slice_get xs i ≡ Some x
get_here [] i x h e = absurd (omega arith)
get_here (y ∷ xs) zero x h e = ap Some (sym e)
get_here (y ∷ xs) (suc i) x h e = get_here xs i x (omega arith) e

pub used_more : (slots : List Slot) (from at : ℕ) (slot : Slot) → ((i : ℕ) → from ≤ i → i < at → (s : Slot) × (slice_get slots i ≡ Some s) × (0 < s.uses))
    → slice_get slots at ≡ Some slot → 0 < slot.uses → (i : ℕ) → from ≤ i → i < at + 1 → (s : Slot) × (slice_get slots i ≡ Some s) × (0 < s.uses)
used_more slots from at slot used here some i f h =
    elim (cases_lt i at) [
      | inl below ↦ used i f below
      | inr above ↦ let e : i ≡ at = omega arith in subst (λ (k : ℕ). (s : Slot) × (slice_get slots k ≡ Some s) × (0 < s.uses)) (sym e) (slot, here, some)
    ]

pub same_key : (n : ℕ) → eq_by_cmp nat_cmp n n ≡ true
same_key n = let e : Equal ≡ nat_cmp n n = nat_cmp_is n n Equal refl in rw (← e) refl

pub other_key : (q n : ℕ) → q ≢ n → eq_by_cmp nat_cmp q n ≡ false
other_key q n ne =
    elim (cases_lt q n) [
      | inl below ↦ let e : Less ≡ nat_cmp q n = nat_cmp_is q n Less below in rw (← e) refl
      | inr above ↦ let lt : n < q = omega arith in let e : Greater ≡ nat_cmp q n = nat_cmp_is q n Greater lt in rw (← e) refl
    ]

-- what callers see of a slot
pub seen : Option Slot → Option (List ℕ × ℕ)
seen None = None
seen (Some slot) = cond (slot.uses == 0) None (Some (slot.token, slot.uses))

find_below : (k : ℕ) (slots : List Slot) (q : ℕ) → q < k → find nat_cmp q (entries_from k slots) ≡ None
find_below k [] q h = refl
find_below k (slot ∷ slots) q h =
    elim (slot.uses == 0) as (λ b. find nat_cmp q (cond b (entries_from (k + 1) slots) ((k, (slot.token, slot.uses)) ∷ entries_from (k + 1) slots)) ≡ None) [
      | true ↦ find_below (k + 1) slots q (omega arith)
      | false ↦ rw (other_key q k (λ e. omega arith)) (find_below (k + 1) slots q (omega arith))
    ]

find_at : (k : ℕ) (slots : List Slot) (q i : ℕ) → q ≡ k + i → find nat_cmp q (entries_from k slots) ≡ seen (slice_get slots i)
unfolding seen
find_at k [] q i e = refl
find_at k (slot ∷ slots) q zero e =
    let here : q ≡ k = omega arith in
    elim (slot.uses == 0) as (λ b. find nat_cmp q (cond b (entries_from (k + 1) slots) ((k, (slot.token, slot.uses)) ∷ entries_from (k + 1) slots)) ≡ cond b None (Some (slot.token, slot.uses))) [
      | true ↦ find_below (k + 1) slots q (omega arith)
      | false ↦ rw (here, same_key k) refl
    ]
find_at k (slot ∷ slots) q (suc i) e =
    elim (slot.uses == 0) as (λ b. find nat_cmp q (cond b (entries_from (k + 1) slots) ((k, (slot.token, slot.uses)) ∷ entries_from (k + 1) slots)) ≡ seen (slice_get slots i)) [
      | true ↦ find_at (k + 1) slots q i (omega arith)
      | false ↦ rw (other_key q k (λ z. omega arith)) (find_at (k + 1) slots q i (omega arith))
    ]

abbrev pub view : List Slot → Table
view slots = map.from_entries (entries_from 1 slots)

pub view_at : (slots : List Slot) (i : ℕ) → map.get (view slots) (i + 1) ≡ seen (slice_get slots i)
view_at slots i = get-from_entries nat_cmp_total (entries_from 1 slots) (i + 1) ∙ find_at 1 slots (i + 1) i (omega arith)

pub view_zero : (slots : List Slot) → map.get (view slots) 0 ≡ None
view_zero slots = get-from_entries nat_cmp_total (entries_from 1 slots) 0 ∙ find_below 1 slots 0 (omega arith)

abbrev no_slots : List Slot
no_slots = []

pub changed_set : (slots : List Slot) (j : ℕ) (x : Slot) → j < length slots → Changed slots (set slots j x) j x
changed_set [] j x h = absurd (omega arith)
changed_set (y ∷ slots) zero x h = (refl, λ i ne. elim i as (λ k. k ≢ 0 → slice_get (x ∷ slots) k ≡ slice_get (y ∷ slots) k) [ zero ↦ λ z. absurd (z refl) | suc k ↦ λ z. refl ] ne)
changed_set (y ∷ slots) (suc j) x h =
    let c = changed_set slots j x (omega arith) in
    (c.0, λ i ne. elim i as (λ k. k ≢ suc j → slice_get (y ∷ set slots j x) k ≡ slice_get (y ∷ slots) k) [ zero ↦ λ z. refl | suc k ↦ λ z. c.1 k (λ e. z (ap suc e)) ] ne)

pub changed_push : (slots : List Slot) (x : Slot) → Changed slots (slots ++ x ∷ []) (length slots) x
changed_push [] x = (refl, λ i ne. elim i as (λ k. k ≢ 0 → slice_get (x ∷ []) k ≡ slice_get no_slots k) [ zero ↦ λ z. absurd (z refl) | suc k ↦ λ z. refl ] ne)
changed_push (y ∷ slots) x =
    let c = changed_push slots x in
    (c.0, λ i ne. elim i as (λ k. k ≢ suc (length slots) → slice_get (y ∷ (slots ++ x ∷ [])) k ≡ slice_get (y ∷ slots) k) [ zero ↦ λ z. refl | suc k ↦ λ z. c.1 k (λ e. z (ap suc e)) ] ne)

pub eq_or : (i j : ℕ) → (i ≡ j) ⊎ (i ≢ j)
eq_or i j = elim (cases_lt i j) [
  | inl below ↦ inr (λ e. omega arith)
  | inr above ↦ elim (cases_lt j i) [ inl b ↦ inr (λ e. omega arith) | inr a ↦ inl (omega arith) ]
]

seen_used : (x : Slot) (n : ℕ) → x.uses ≡ n + 1 → seen (Some x) ≡ Some (x.token, n + 1)
unfolding seen
seen_used x n e = let z : (x.uses == 0) ≡ false = grind (arith, nat_tests) in rw (z, e) refl

at_place : (slots slots' : List Slot) (j : ℕ) (x : Slot) → Changed slots slots' j x → x.uses ≡ uses_at (view slots) (j + 1) + 1 → (i : ℕ) → i ≡ j
    → map.get (view slots') (suc i) ≡ map.get (counted (view slots) x.token (j + 1)) (suc i)
at_place slots slots' j x ch uses i e =
    let s : suc i ≡ j + 1 = omega arith in
    rw s (view_at slots' j ∙ (ap seen ch.0 ∙ (seen_used x (uses_at (view slots) (j + 1)) uses ∙ sym (get-insert nat_cmp_total (view slots) (j + 1) (x.token, uses_at (view slots) (j + 1) + 1) (j + 1) ∙ rw (same_key (j + 1)) refl))))

-- the table with one use more
pub view_counted : (slots slots' : List Slot) (j : ℕ) (x : Slot) → Changed slots slots' j x → x.uses ≡ uses_at (view slots) (j + 1) + 1 → view slots' ≡ counted (view slots) x.token (j + 1)
view_counted slots slots' j x ch uses = same_map nat_cmp_total nat_cmp-IsAntisymmetric (view slots') (counted (view slots) x.token (j + 1)) (λ q. elim q as (λ q. map.get (view slots') q ≡ map.get (counted (view slots) x.token (j + 1)) q) [
  | zero ↦ view_zero slots' ∙ sym (get-insert nat_cmp_total (view slots) (j + 1) (x.token, uses_at (view slots) (j + 1) + 1) 0 ∙ rw (other_key 0 (j + 1) (λ e. omega arith)) (view_zero slots))
  | suc i ↦ step i
]) where
  step : (i : ℕ) → map.get (view slots') (suc i) ≡ map.get (counted (view slots) x.token (j + 1)) (suc i)
  step i =
      let v' : map.get (view slots') (suc i) ≡ seen (slice_get slots' i) = rw (← add-one i) (view_at slots' i) in
      let v : map.get (view slots) (suc i) ≡ seen (slice_get slots i) = rw (← add-one i) (view_at slots i) in
      elim (eq_or i j) [
        | inl e ↦ at_place slots slots' j x ch uses i e
        | inr ne ↦ v' ∙ (ap seen (ch.1 i ne) ∙ sym (get-insert nat_cmp_total (view slots) (j + 1) (x.token, uses_at (view slots) (j + 1) + 1) (suc i) ∙ rw (other_key (suc i) (j + 1) (λ e. ne (omega arith))) v))
      ]

-- what callers see of a number is in a slot
pub pair_parts : (a b : List ℕ × ℕ) → Some a ≡ Some b → a ≡ b
pair_parts a b e = cc

pub none_some : (a : List ℕ × ℕ) → None ≡ Some a → ⊥
none_some a e = absurd cc

eqb_above : (n : ℕ) → (n == 0) ≡ false → 0 < n
eqb_above zero e = absurd cc
eqb_above (suc n) e = omega arith

seen_case : (slot : Slot) (token : List ℕ) (uses : ℕ) (b : Bool) → (slot.uses == 0) ≡ b → cond {A = Option (List ℕ × ℕ)} b None (Some (slot.token, slot.uses)) ≡ Some (token, uses) → (slot.token ≡ token) × (0 < slot.uses)
seen_case slot token uses true t e = absurd (none_some (token, uses) e)
seen_case slot token uses false t e =
    let p : ◌≡◌ {A = List ℕ × ℕ} (slot.token, slot.uses) (token, uses) = pair_parts (slot.token, slot.uses) (token, uses) e in
    (ap (λ (q : List ℕ × ℕ). q.0) p, eqb_above slot.uses t)

seen_some : (o : Option Slot) (token : List ℕ) (uses : ℕ) → seen o ≡ Some (token, uses) → (slot : Slot) × (o ≡ Some slot) × (slot.token ≡ token) × (0 < slot.uses)
unfolding seen
seen_some None token uses e = absurd (none_some (token, uses) e)
seen_some (Some slot) token uses e =
    let c = seen_case slot token uses (slot.uses == 0) refl e in
    (slot, refl, c.0, c.1)

seen_none : (slot : Slot) → slot.uses ≡ 0 → seen (Some slot) ≡ None
unfolding seen
seen_none slot e = rw e refl

-- a number in use is that of a slot
pub held_slot : (slots : List Slot) (token : List ℕ) (n : ℕ) → Holds (view slots) token n → (i : ℕ) × (slot : Slot) × (n ≡ i + 1) × (slice_get slots i ≡ Some slot) × (slot.token ≡ token) × (0 < slot.uses)
held_slot slots token zero h = absurd (none_some (token, h.0) (sym (view_zero slots) ∙ h.1))
held_slot slots token (suc i) h =
    let e : seen (slice_get slots i) ≡ Some (token, h.0) = sym (view_at slots i) ∙ rw (add-one i) h.1 in
    let s = seen_some (slice_get slots i) token h.0 e in
    (i, s.0, omega arith, s.1, s.2, s.3)

pub slot_got : (slots : List Slot) (i : ℕ) (slot : Slot) → slice_get slots i ≡ Some slot → 0 < slot.uses → map.get (view slots) (i + 1) ≡ Some (slot.token, slot.uses)
unfolding seen
slot_got slots i slot e some =
    let t : (slot.uses == 0) ≡ false = grind (arith, nat_tests) in
    view_at slots i ∙ rw (e, t) refl

slot_held : (slots : List Slot) (i : ℕ) (slot : Slot) → slice_get slots i ≡ Some slot → 0 < slot.uses → Holds (view slots) slot.token (i + 1)
slot_held slots i slot e some = (slot.uses, slot_got slots i slot e some)

pub true_false : true ≡ false → ⊥
true_false e = absurd cc

index_none : (n : ℕ) → None ≡ Some n → ⊥
index_none n e = absurd cc

no_slot : (x : Slot) → None ≡ Some x → ⊥
no_slot x e = absurd cc

module _ (b : Inside) (kept : Indexed b) (token : List ℕ) where
  -- a token in the index keeps its number
  pub drawn_hit : (n : ℕ) → get (pointwise nat_eq) b.index token ≡ Some n → Draws (Holds (shown b)) token n
  drawn_hit n hit =
      let f = kept.found token n hit in
      let h : Holds (shown b) token n = subst (λ (k : ℕ). Holds (shown b) token k) (sym f.2) (subst (λ (t : List ℕ). Holds (shown b) t (f.0 + 1)) f.4 (slot_held b.slots.items f.0 f.1 f.3 f.5)) in
      record {
        kept = λ k uses.
            let s = held_slot b.slots.items token k uses in
            let l : get (pointwise nat_eq) b.index token ≡ Some (s.0 + 1) = subst (λ (t : List ℕ). get (pointwise nat_eq) b.index t ≡ Some (s.0 + 1)) s.4 (kept.listed s.0 s.1 s.3 s.5) in
            let same : Some n ≡ Some (s.0 + 1) = sym hit ∙ l in
            let eq : n ≡ s.0 + 1 = cc in
            eq ∙ sym s.2;
        fresh = λ none. absurd (none n h);
        lowest = λ above k pos below. let out : n < n = above n (token, h) in absurd (omega arith);
      }

  -- a new token gets the lowest free number
  pub drawn_miss : (at : ℕ) → get (pointwise nat_eq) b.index token ≡ None → AllUsed b.slots.items at
      → ((slot : Slot) → slice_get b.slots.items at ≡ Some slot → slot.uses ≡ 0) → Draws (Holds (shown b)) token (at + 1)
  drawn_miss at miss used free = record {
    kept = λ k uses.
        let s = held_slot b.slots.items token k uses in
        let l : get (pointwise nat_eq) b.index token ≡ Some (s.0 + 1) = subst (λ (t : List ℕ). get (pointwise nat_eq) b.index t ≡ Some (s.0 + 1)) s.4 (kept.listed s.0 s.1 s.3 s.5) in
        absurd (index_none (s.0 + 1) (sym miss ∙ l));
    fresh = λ none. (
      omega arith,
      λ held.
          let s = held_slot b.slots.items held.0 (at + 1) held.1 in
          let e : s.0 ≡ at = omega (arith, s.2) in
          let z = free s.1 (subst (λ (i : ℕ). slice_get b.slots.items i ≡ Some s.1) e s.3) in
          let p = s.5 in absurd (omega arith),
    );
    lowest = λ above k pos below. elim k as (λ k. 0 < k → k < at + 1 → InUse (Holds (shown b)) k) [
      | zero ↦ λ p q. absurd (omega arith)
      | suc i ↦ λ p q.
          let u = used i (omega arith) in
          (u.0.token, subst (λ (k : ℕ). Holds (shown b) u.0.token k) (add-one i) (slot_held b.slots.items i u.0 u.1 u.2))
    ] pos below;
  }

-- the invariant after one use more of a token in the index
pub kept_hit : (b b' : Inside) → Indexed b → (i : ℕ) (slot : Slot) → slice_get b.slots.items i ≡ Some slot → 0 < slot.uses → (u : ℕ) → 0 < u
    → b'.index ≡ b.index → b'.free_from ≡ b.free_from → Changed b.slots.items b'.slots.items i (record slot { uses = u }) → Indexed b'
kept_hit b b' kept i slot here some u above index from ch = record {
  found = λ token n hit.
      let f = kept.found token n (rw index at hit) in
      elim (eq_or f.0 i) [
        | inl e ↦
            let same : Some f.1 ≡ Some slot = sym f.3 ∙ (ap (λ (k : ℕ). slice_get b.slots.items k) e ∙ here) in
            let is : f.1 ≡ slot = cc in
            (i, record slot { uses = u }, f.2 ∙ ap (λ (k : ℕ). k + 1) e, ch.0, sym (ap (λ (s : Slot). s.token) is) ∙ f.4, above)
        | inr ne ↦ (f.0, f.1, f.2, ch.1 f.0 ne ∙ f.3, f.4, f.5)
      ];
  listed = λ k s at pos. rw index (elim (eq_or k i) [
    | inl e ↦
        let same : Some s ≡ Some (record slot { uses = u }) = sym at ∙ (ap (λ (k : ℕ). slice_get b'.slots.items k) e ∙ ch.0) in
        let is : s ≡ record slot { uses = u } = cc in
        let l : get (pointwise nat_eq) b.index slot.token ≡ Some (i + 1) = kept.listed i slot here some in
        rw (ap (λ (s : Slot). s.token) is, e) l
    | inr ne ↦ kept.listed k s (sym (ch.1 k ne) ∙ at) pos
  ]);
  used = λ k below.
      let old = kept.used k (rw from at below) in
      elim (eq_or k i) [
        | inl e ↦ (record slot { uses = u }, rw e ch.0, above)
        | inr ne ↦ (old.0, ch.1 k ne ∙ old.1, old.2)
      ];
}

miss_found : (b b' : Inside) → Indexed b → (at : ℕ) (slot : Slot) → slot.uses ≡ 1 → ((s : Slot) → slice_get b.slots.items at ≡ Some s → s.uses ≡ 0)
    → Updates (pointwise nat_eq) b.index b'.index slot.token (Some (at + 1)) → Changed b.slots.items b'.slots.items at slot
    → (token : List ℕ) (n : ℕ) (t : Bool) → pointwise nat_eq slot.token token ≡ t → cond t (Some (at + 1)) (get (pointwise nat_eq) b.index token) ≡ Some n
    → (i : ℕ) × (s : Slot) × (n ≡ i + 1) × (slice_get b'.slots.items i ≡ Some s) × (s.token ≡ token) × (0 < s.uses)
miss_found b b' kept at slot one free index ch token n true t hit =
    let eq : at + 1 ≡ n = cc in
    (at, slot, sym eq, ch.0, (bytes_eq-Decides slot.token token).0 t, omega arith)
miss_found b b' kept at slot one free index ch token n false t hit =
    let f = kept.found token n hit in
    let pos = f.5 in
    (f.0, f.1, f.2, ch.1 f.0 (λ e. let z = free f.1 (subst (λ (i : ℕ). slice_get b.slots.items i ≡ Some f.1) e f.3) in absurd (omega arith)) ∙ f.3, f.4, f.5)

miss_other : (b : Inside) (token other : List ℕ) (k at : ℕ) → get (pointwise nat_eq) b.index token ≡ None → get (pointwise nat_eq) b.index other ≡ Some k
    → (t : Bool) → pointwise nat_eq token other ≡ t → cond t (Some (at + 1)) (get (pointwise nat_eq) b.index other) ≡ Some k
miss_other b token other k at miss l true t =
    let e : token ≡ other = (bytes_eq-Decides token other).0 t in
    absurd (index_none k (sym miss ∙ (ap (λ (w : List ℕ). get (pointwise nat_eq) b.index w) e ∙ l)))
miss_other b token other k at miss l false t = l

pub kept_same : (b b' : Inside) → b'.slots.items ≡ b.slots.items → b'.index.entries ≡ b.index.entries → b'.free_from ≡ b.free_from → Indexed b → Indexed b'
kept_same b b' slots index from kept = record {
  found = λ token n hit. rw slots (kept.found token n (rw index at hit));
  listed = λ i slot here some. rw index (kept.listed i slot (rw slots at here) some);
  used = λ i below. rw slots (kept.used i (rw from at below));
}

pub uses_of_slot : (slots : List Slot) (i : ℕ) (slot : Slot) → slice_get slots i ≡ Some slot → 0 < slot.uses → uses_at (view slots) (i + 1) ≡ slot.uses
uses_of_slot slots i slot here some = ap (λ (o : Option (List ℕ × ℕ)). elim o as (λ x. ℕ) [ None ↦ 0 | Some entry ↦ entry.1 ]) (slot_got slots i slot here some)

pub within_get : (xs : List Slot) (i : ℕ) (x : Slot) → slice_get xs i ≡ Some x → i < length xs
within_get [] i x e = absurd (no_slot x e)
within_get (y ∷ xs) zero x e = omega arith
within_get (y ∷ xs) (suc i) x e = omega (arith, within_get xs i x e)

pub used_within : (slots : List Slot) (n : ℕ) → AllUsed slots n → n ≤ length slots
used_within slots zero used = omega arith
used_within slots (suc n) used = let u = used n (omega arith) in omega (arith, within_get slots n u.0 u.1)

pub seen_unused : (o : Option Slot) → ((s : Slot) → o ≡ Some s → s.uses ≡ 0) → seen o ≡ None
unfolding seen
seen_unused None free = refl
seen_unused (Some s) free = seen_none s (free s refl)

pub unused_get : (slots : List Slot) (at : ℕ) → ((s : Slot) → slice_get slots at ≡ Some s → s.uses ≡ 0) → map.get (view slots) (at + 1) ≡ None
unused_get slots at free = view_at slots at ∙ seen_unused (slice_get slots at) free

unused_at : (slots : List Slot) (at : ℕ) → ((s : Slot) → slice_get slots at ≡ Some s → s.uses ≡ 0) → uses_at (view slots) (at + 1) ≡ 0
unused_at slots at free = ap (λ (o : Option (List ℕ × ℕ)). elim o as (λ x. ℕ) [ None ↦ 0 | Some entry ↦ entry.1 ]) (view_at slots at ∙ seen_unused (slice_get slots at) free)

-- the uses and the token of an entry
pub uses_of_got : (m : Table) (n : ℕ) (v : List ℕ × ℕ) → map.get m n ≡ Some v → uses_at m n ≡ v.1
uses_of_got m n v e = ap (λ (o : Option (List ℕ × ℕ)). elim o as (λ x. ℕ) [ None ↦ 0 | Some entry ↦ entry.1 ]) e

pub token_of_got : (m : Table) (n : ℕ) (v : List ℕ × ℕ) → map.get m n ≡ Some v → token_in m n ≡ v.0
token_of_got m n v e = ap (λ (o : Option (List ℕ × ℕ)). elim o as (λ x. List ℕ) [ None ↦ [] | Some entry ↦ entry.0 ]) e

-- a number in the index, and its slot
module _ (b : Inside) (kept : Indexed b) (token : List ℕ) (n : ℕ) (hit : get (pointwise nat_eq) b.index token ≡ Some n) where
  pub hit_holds : Holds (shown b) token n
  hit_holds =
      let f = kept.found token n hit in
      let h : Holds (shown b) token (f.0 + 1) = subst (λ (t : List ℕ). Holds (shown b) t (f.0 + 1)) f.4 (slot_held b.slots.items f.0 f.1 f.3 f.5) in
      let back : f.0 + 1 ≡ n = sym f.2 in
      subst (λ (k : ℕ). Holds (shown b) token k) back h

  pub hit_some : 0 < uses_at (shown b) n
  hit_some =
      let f = kept.found token n hit in
      let uses = uses_of_slot b.slots.items f.0 f.1 f.3 f.5 in
      let back : f.0 + 1 ≡ n = sym f.2 in
      subst (λ (k : ℕ). 0 < uses_at (shown b) k) back (rw uses f.5)

unlisted_case : (b : Inside) → Indexed b → (token : List ℕ) → ((n : ℕ) → Holds (shown b) token n → ⊥) → (o : Option ℕ) → get (pointwise nat_eq) b.index token ≡ o → o ≡ None
unlisted_case b kept token new None e = refl
unlisted_case b kept token new (Some n) e = absurd (new n (hit_holds b kept token n e))

-- a token that is not in use is not in the index
pub unlisted : (b : Inside) → Indexed b → (token : List ℕ) → ((n : ℕ) → Holds (shown b) token n → ⊥) → get (pointwise nat_eq) b.index token ≡ None
unlisted b kept token new = unlisted_case b kept token new (get (pointwise nat_eq) b.index token) refl

-- a token that the index lacks is not in use
pub miss_none : (b : Inside) → Indexed b → (token : List ℕ) → get (pointwise nat_eq) b.index token ≡ None → (n : ℕ) → Holds (shown b) token n → ⊥
miss_none b kept token miss n h =
    let s = held_slot b.slots.items token n h in
    let l : get (pointwise nat_eq) b.index token ≡ Some (s.0 + 1) = subst (λ (t : List ℕ). get (pointwise nat_eq) b.index t ≡ Some (s.0 + 1)) s.4 (kept.listed s.0 s.1 s.3 s.5) in
    index_none (s.0 + 1) (sym miss ∙ l)

-- the invariant after a new token
pub kept_miss : (b b' : Inside) → Indexed b → (at : ℕ) (slot : Slot) → get (pointwise nat_eq) b.index slot.token ≡ None → slot.uses ≡ 1
    → AllUsed b.slots.items at → ((s : Slot) → slice_get b.slots.items at ≡ Some s → s.uses ≡ 0)
    → Updates (pointwise nat_eq) b.index b'.index slot.token (Some (at + 1)) → b'.free_from ≡ at + 1 → Changed b.slots.items b'.slots.items at slot → Indexed b'
kept_miss b b' kept at slot miss one used free index from ch = record {
  found = λ token n hit. miss_found b b' kept at slot one free index ch token n (pointwise nat_eq slot.token token) refl (sym (index.0 token) ∙ hit);
  listed = λ k s here pos. elim (eq_or k at) [
    | inl e ↦
        let same : Some s ≡ Some slot = sym here ∙ (ap (λ (k : ℕ). slice_get b'.slots.items k) e ∙ ch.0) in
        let is : s ≡ slot = cc in
        rw (ap (λ (s : Slot). s.token) is, e) index.1
    | inr ne ↦
        let l : get (pointwise nat_eq) b.index s.token ≡ Some (k + 1) = kept.listed k s (sym (ch.1 k ne) ∙ here) pos in
        index.0 s.token ∙ miss_other b slot.token s.token (k + 1) at miss l (pointwise nat_eq slot.token s.token) refl
  ];
  used = λ k below. elim (eq_or k at) [
    | inl e ↦ (slot, rw e ch.0, omega arith)
    | inr ne ↦ let u = used k (omega (arith, from)) in (u.0, ch.1 k ne ∙ u.1, u.2)
  ];
}

module _ (b b' : Inside) (kept : Indexed b) (at : ℕ) (slot : Slot) (miss : get (pointwise nat_eq) b.index slot.token ≡ None) (one : slot.uses ≡ 1)
    (from : b.free_from ≤ at) (used : (i : ℕ) → b.free_from ≤ i → i < at → (s : Slot) × (slice_get b.slots.items i ≡ Some s) × (0 < s.uses))
    (free : at < length b.slots.items → (s : Slot) × (slice_get b.slots.items at ≡ Some s) × (s.uses ≡ 0)) where
  pub miss_used : AllUsed b.slots.items at
  miss_used i below = elim (cases_lt i b.free_from) [ inl low ↦ kept.used i low | inr high ↦ used i high below ]

  pub miss_free : (s : Slot) → slice_get b.slots.items at ≡ Some s → s.uses ≡ 0
  miss_free s here =
      let f = free (within_get b.slots.items at s here) in
      let same : Some f.0 ≡ Some s = sym f.1 ∙ here in
      let is : f.0 ≡ s = cc in
      sym (ap (λ (s : Slot). s.uses) is) ∙ f.2

  pub miss_drawn : Draws (Holds (shown b)) slot.token (at + 1)
  miss_drawn = drawn_miss b kept slot.token at miss miss_used miss_free

  module _ (index : Updates (pointwise nat_eq) b.index b'.index slot.token (Some (at + 1))) (next : b'.free_from ≡ at + 1) (ch : Changed b.slots.items b'.slots.items at slot) where
    pub miss_kept : Indexed b'
    miss_kept = kept_miss b b' kept at slot miss one miss_used miss_free index next ch

    pub miss_counted : shown b' ≡ counted (shown b) slot.token (at + 1)
    miss_counted = view_counted b.slots.items b'.slots.items at slot ch (let none = unused_at b.slots.items at miss_free in omega arith)

-- the table where a slot was changed
pub view_insert : (slots slots' : List Slot) (j : ℕ) (x : Slot) → Changed slots slots' j x → 0 < x.uses → view slots' ≡ map.insert (view slots) (j + 1) (x.token, x.uses)
view_insert slots slots' j x ch some = same_map nat_cmp_total nat_cmp-IsAntisymmetric (view slots') (map.insert (view slots) (j + 1) (x.token, x.uses)) (λ q. elim q as (λ q. map.get (view slots') q ≡ map.get (map.insert (view slots) (j + 1) (x.token, x.uses)) q) [
  | zero ↦ view_zero slots' ∙ sym (get-insert nat_cmp_total (view slots) (j + 1) (x.token, x.uses) 0 ∙ rw (other_key 0 (j + 1) (λ e. omega arith)) (view_zero slots))
  | suc i ↦ elim (eq_or i j) [
    | inl e ↦
        let s : suc i ≡ j + 1 = omega arith in
        rw s (slot_got slots' j x ch.0 some ∙ sym (get-insert nat_cmp_total (view slots) (j + 1) (x.token, x.uses) (j + 1) ∙ rw (same_key (j + 1)) refl))
    | inr ne ↦
        let v' : map.get (view slots') (suc i) ≡ seen (slice_get slots' i) = rw (← add-one i) (view_at slots' i) in
        let v : map.get (view slots) (suc i) ≡ seen (slice_get slots i) = rw (← add-one i) (view_at slots i) in
        v' ∙ (ap seen (ch.1 i ne) ∙ sym (get-insert nat_cmp_total (view slots) (j + 1) (x.token, x.uses) (suc i) ∙ rw (other_key (suc i) (j + 1) (λ e. ne (omega arith))) v))
  ]
])

pub view_remove : (slots slots' : List Slot) (j : ℕ) (x : Slot) → Changed slots slots' j x → x.uses ≡ 0 → view slots' ≡ map.remove (view slots) (j + 1)
view_remove slots slots' j x ch none = same_map nat_cmp_total nat_cmp-IsAntisymmetric (view slots') (map.remove (view slots) (j + 1)) (λ q. elim q as (λ q. map.get (view slots') q ≡ map.get (map.remove (view slots) (j + 1)) q) [
  | zero ↦ view_zero slots' ∙ sym (get-remove nat_cmp_total (view slots) (j + 1) 0 ∙ rw (other_key 0 (j + 1) (λ e. omega arith)) (view_zero slots))
  | suc i ↦ elim (eq_or i j) [
    | inl e ↦
        let s : suc i ≡ j + 1 = omega arith in
        rw s (view_at slots' j ∙ (ap seen ch.0 ∙ (seen_none x none ∙ sym (get-remove nat_cmp_total (view slots) (j + 1) (j + 1) ∙ rw (same_key (j + 1)) refl))))
    | inr ne ↦
        let v' : map.get (view slots') (suc i) ≡ seen (slice_get slots' i) = rw (← add-one i) (view_at slots' i) in
        let v : map.get (view slots) (suc i) ≡ seen (slice_get slots i) = rw (← add-one i) (view_at slots i) in
        v' ∙ (ap seen (ch.1 i ne) ∙ sym (get-remove nat_cmp_total (view slots) (j + 1) (suc i) ∙ rw (other_key (suc i) (j + 1) (λ e. ne (omega arith))) v))
  ]
])

drop_found : (b b' : Inside) → Indexed b → (i : ℕ) (slot : Slot) → slice_get b.slots.items i ≡ Some slot → Changed b.slots.items b'.slots.items i (record slot { uses = 0 })
    → (token : List ℕ) (n : ℕ) (t : Bool) → pointwise nat_eq slot.token token ≡ t → cond t None (get (pointwise nat_eq) b.index token) ≡ Some n
    → (k : ℕ) × (s : Slot) × (n ≡ k + 1) × (slice_get b'.slots.items k ≡ Some s) × (s.token ≡ token) × (0 < s.uses)
drop_found b b' kept i slot here ch token n true t hit = absurd (index_none n hit)
drop_found b b' kept i slot here ch token n false t hit =
    let f = kept.found token n hit in
    let ne : f.0 ≢ i = λ e.
    let same : Some f.1 ≡ Some slot = sym f.3 ∙ (ap (λ (k : ℕ). slice_get b.slots.items k) e ∙ here) in
    let is : f.1 ≡ slot = cc in
    let q : pointwise nat_eq slot.token token ≡ true = (bytes_eq-Decides slot.token token).1 (sym (ap (λ (s : Slot). s.token) is) ∙ f.4) in
    true_false (sym q ∙ t) in
    (f.0, f.1, f.2, ch.1 f.0 ne ∙ f.3, f.4, f.5)

drop_other : (b : Inside) → Indexed b → (i : ℕ) (slot : Slot) → slice_get b.slots.items i ≡ Some slot → 0 < slot.uses → (k : ℕ) (s : Slot) → slice_get b.slots.items k ≡ Some s → 0 < s.uses → k ≢ i
    → (t : Bool) → pointwise nat_eq slot.token s.token ≡ t → cond t None (get (pointwise nat_eq) b.index s.token) ≡ Some (k + 1)
drop_other b kept i slot here some k s at pos ne true t =
    let e : slot.token ≡ s.token = (bytes_eq-Decides slot.token s.token).0 t in
    let one : Some (k + 1) ≡ Some (i + 1) = sym (kept.listed k s at pos) ∙ (ap (λ (w : List ℕ). get (pointwise nat_eq) b.index w) (sym e) ∙ kept.listed i slot here some) in
    let n : k + 1 ≡ i + 1 = cc in
    absurd (ne (omega arith))
drop_other b kept i slot here some k s at pos ne false t = kept.listed k s at pos

-- the invariant after the last use of a token
pub kept_drop : (b b' : Inside) → Indexed b → (i : ℕ) (slot : Slot) → slice_get b.slots.items i ≡ Some slot → 0 < slot.uses
    → Updates (pointwise nat_eq) b.index b'.index slot.token None → b'.free_from ≡ min b.free_from i → Changed b.slots.items b'.slots.items i (record slot { uses = 0 }) → Indexed b'
kept_drop b b' kept i slot here some index from ch = record {
  found = λ token n hit. drop_found b b' kept i slot here ch token n (pointwise nat_eq slot.token token) refl (sym (index.0 token) ∙ hit);
  listed = λ k s at pos. elim (eq_or k i) [
    | inl e ↦
        let same : Some s ≡ Some (record slot { uses = 0 }) = sym at ∙ (ap (λ (k : ℕ). slice_get b'.slots.items k) e ∙ ch.0) in
        let is : s ≡ record slot { uses = 0 } = cc in
        let z : s.uses ≡ 0 = ap (λ (s : Slot). s.uses) is in
        absurd (omega arith)
    | inr ne ↦ index.0 s.token ∙ drop_other b kept i slot here some k s (sym (ch.1 k ne) ∙ at) pos ne (pointwise nat_eq slot.token s.token) refl
  ];
  used = λ k below.
      let u = kept.used k (omega (arith, from)) in
      (u.0, ch.1 k (λ e. omega (arith, from)) ∙ u.1, u.2);
}

uses_some : (slots : List Slot) (n : ℕ) (o : Option (List ℕ × ℕ)) → map.get (view slots) n ≡ o → 0 < (elim o as (λ x. ℕ) [ None ↦ 0 | Some entry ↦ entry.1 ]) → (token : List ℕ) × Holds (view slots) token n
uses_some slots n None e some = absurd (omega arith)
uses_some slots n (Some entry) e some = (entry.0, (entry.1, e))

-- the slot of a number with a use
pub used_slot : (slots : List Slot) (n : ℕ) → 0 < uses_at (view slots) n → (slot : Slot) × (n ≡ n - 1 + 1) × (slice_get slots (n - 1) ≡ Some slot) × (0 < slot.uses)
used_slot slots n some =
    let t = uses_some slots n (map.get (view slots) n) refl some in
    let h = held_slot slots t.0 n t.1 in
    let e : h.0 ≡ n - 1 = omega (arith, h.2) in
    (h.1, omega (arith, h.2), subst (λ (i : ℕ). slice_get slots i ≡ Some h.1) e h.3, h.5)

pub one_of : (n : ℕ) → (n == 1) ≡ true → n ≡ 1
one_of n e = grind (arith, nat_tests)

pub two_of : (n : ℕ) → 0 < n → (n == 1) ≡ false → 0 < n - 1
two_of n pos e = grind (arith, nat_tests)

positive_case : (x : Slot) (token : List ℕ) (uses : ℕ) (b : Bool) → (x.uses == 0) ≡ b → cond {A = Option (List ℕ × ℕ)} b None (Some (x.token, x.uses)) ≡ Some (token, uses) → 0 < uses
positive_case x token uses true t e = absurd (none_some (token, uses) e)
positive_case x token uses false t e =
    let p : ◌≡◌ {A = List ℕ × ℕ} (x.token, x.uses) (token, uses) = pair_parts (x.token, x.uses) (token, uses) e in
    subst (λ (k : ℕ). 0 < k) (ap (λ (q : List ℕ × ℕ). q.1) p) (eqb_above x.uses t)

seen_positive : (o : Option Slot) (token : List ℕ) (uses : ℕ) → seen o ≡ Some (token, uses) → 0 < uses
unfolding seen
seen_positive None token uses e = absurd (none_some (token, uses) e)
seen_positive (Some x) token uses e = positive_case x token uses (x.uses == 0) refl e

pub view_positive : (slots : List Slot) (n : ℕ) (token : List ℕ) (uses : ℕ) → map.get (view slots) n ≡ Some (token, uses) → 0 < uses
view_positive slots zero token uses e = absurd (none_some (token, uses) (sym (view_zero slots) ∙ e))
view_positive slots (suc i) token uses e =
    let g : seen (slice_get slots i) ≡ Some (token, uses) = sym (view_at slots i) ∙ rw (add-one i) e in
    seen_positive (slice_get slots i) token uses g

-- a number whose slot has the token is the one that the index lists
pub listed_hit : (b : Inside) → Indexed b → (token : List ℕ) (n : ℕ) → IsListed b.slots.items n token → get (pointwise nat_eq) b.index token ≡ Some n
listed_hit b kept token n l =
    let (i, slot, is, at, same, some) = l in
    subst (λ (t : List ℕ). get (pointwise nat_eq) b.index t ≡ Some n) same (kept.listed i slot at some ∙ ap Some (sym is))
