-- A table after an entry of a live scope was put under a key.
use Rattle.std.proofs.Common.{◌≡◌, ◌+◌, Bool, true, false, cond, filter, length, if◌then◌else◌, Option, Some, None, List, [], ◌∷◌, All, refl, sym, ap, ◌∙◌, true≢false, is_some, arith}
use Rattle.std.proofs.lemmas.List.{length-map}
use Rattle.std.proofs.lemmas.List.Elements.{All-head, All-tail, All-cons}
use Rattle.std.specs.List.{IsDistinct}
use Rattle.std.specs.Map.{keys_of}
use Rattle.indexmap.specs.IndexMap.{insert_entry}
use Rattle.stat_defs.specs.declared.events.Key.{Key}
use Rattle.stat_defs.specs.declared.ids.ScopeId.{ScopeId}
use Rattle.stat_defs.specs.Keys.{Held, held_under, same_key}
use Rattle.thread_cache.specs.declared.key.CacheKey.{CacheKey}
use Rattle.thread_cache.specs.declared.scopes.ScopeEntries.{ScopeEntries}
use Rattle.thread_cache.specs.declared.table.Slot.{Slot}
use Rattle.thread_cache.specs.Keys.{key_of}
use Rattle.thread_cache.specs.Scopes.{is_live}
use Rattle.thread_cache.specs.Held.{held_of, held_with, shown, is_at, slot_under}
use Rattle.stat_defs.proofs.KeyLemmas.{same_key-is}
use Rattle.thread_cache.specs.KeyLaws.{eq, finds_as}
use Rattle.thread_cache.proofs.KeyLemmas.{same_key_of}
use Rattle.thread_cache.proofs.Finding.{found, held_at, one_key}

module _ (key : CacheKey) (slot : Slot) where
  abbrev filled : List (CacheKey × Slot) → List (CacheKey × Slot)
  filled table = insert_entry eq table key slot

  -- every key finds what it found, and this one the new slot
  found_in_filled : (k : Key) (table : List (CacheKey × Slot)) → slot_under k (filled table) ≡ cond (is_at k key) (Some slot) (slot_under k table)
  found_in_filled k [] = refl
  found_in_filled k (e ∷ es) = by (eq key e.0) refl (is_at k key) refl (is_at k e.0) refl (found_in_filled k es)
    where
      at_e : Bool → Option Slot
      at_e t = cond t (Some e.1) (slot_under k es)

      by : (b : Bool) → eq key e.0 ≡ b → (t : Bool) → is_at k key ≡ t → (u : Bool) → is_at k e.0 ≡ u
          → slot_under k (filled es) ≡ cond (is_at k key) (Some slot) (slot_under k es)
          → slot_under k (if b then (e.0, slot) ∷ es else e ∷ filled es) ≡ cond (is_at k key) (Some slot) (cond (is_at k e.0) (Some e.1) (slot_under k es))
      by true same t is u is_e rest =
          let alike : is_at k e.0 ≡ is_at k key = ap (λ at. same_key at k) (same_key_of key e.0 same) in
          ap (λ t. cond t (Some slot) (slot_under k es)) alike ∙ ends (is_at k key) (sym alike)
        where
          ends : (t : Bool) → t ≡ is_at k e.0 → cond t (Some slot) (slot_under k es) ≡ cond t (Some slot) (cond (is_at k e.0) (Some e.1) (slot_under k es))
          ends true same = refl
          ends false same = ap (λ t. cond t (Some e.1) (slot_under k es)) same
      by false apart true is true is_e rest = absurd (true≢false (sym (one_key k key e.0 is is_e) ∙ apart))
      by false apart true is false is_e rest =
          ap (λ t. cond t (Some e.1) (slot_under k (filled es))) is_e ∙ (rest ∙ (ap (λ t. cond t (Some slot) (slot_under k es)) is
          ∙ sym (ap (λ t. cond t (Some slot) (cond (is_at k e.0) (Some e.1) (slot_under k es))) is)))
      by false apart false is true is_e rest =
          ap (λ t. cond t (Some e.1) (slot_under k (filled es))) is_e ∙ sym (ap (λ t. cond t (Some slot) (cond (is_at k e.0) (Some e.1) (slot_under k es))) is
          ∙ ap (λ t. cond t (Some e.1) (slot_under k es)) is_e)
      by false apart false is false is_e rest =
          ap (λ t. cond t (Some e.1) (slot_under k (filled es))) is_e ∙ (rest ∙ (ap (λ t. cond t (Some slot) (slot_under k es)) is
          ∙ sym (ap (λ t. cond t (Some slot) (cond (is_at k e.0) (Some e.1) (slot_under k es))) is ∙ ap (λ t. cond t (Some e.1) (slot_under k es)) is_e)))

  -- what holds of each slot and of the new one holds of each slot then
  pub All-filled : (P : Slot → Type 0) (table : List (CacheKey × Slot)) → All (λ e. P e.1) table → P slot → All (λ e. P e.1) (filled table)
  All-filled P [] all new = All-cons (λ e. P e.1) (key, slot) [] new all
  All-filled P (e ∷ es) all new = by (eq key e.0) (All-filled P es (All-tail (λ e. P e.1) e es all) new)
    where
      by : (b : Bool) → All (λ e. P e.1) (filled es) → All (λ e. P e.1) (if b then (e.0, slot) ∷ es else e ∷ filled es)
      by true rest = All-cons (λ e. P e.1) (e.0, slot) es new (All-tail (λ e. P e.1) e es all)
      by false rest = All-cons (λ e. P e.1) e (filled es) (All-head (λ e. P e.1) e es all) rest

  module _ (scopes : List (ScopeId × ScopeEntries)) (opened : is_live scopes slot.scope ≡ true) where
    abbrev goes : CacheKey × Slot → Bool
    goes e = is_live scopes e.1.scope

    pub held_in_filled : (table : List (CacheKey × Slot)) → IsDistinct eq (keys_of table) → IsDistinct eq (keys_of (filled table)) → (k : Key)
        → held_under k (shown scopes (filled table)) ≡ held_with (held_of (key, slot)) (shown scopes table) k
    held_in_filled table before after k =
        found scopes k (filled table) after ∙ (ap (held_at scopes k) (found_in_filled k table) ∙ by (is_at k key) refl)
      where
        by : (t : Bool) → is_at k key ≡ t → held_at scopes k (cond t (Some slot) (slot_under k table)) ≡ (if t then Some (held_of (key, slot)) else held_under k (shown scopes table))
        by true is =
            let same : key_of key ≡ k = same_key-is (key_of key) k is in
            ap (λ b. cond b (Some (record { key = k; scope = slot.scope.0; verdict = slot.verdict })) None) opened
            ∙ sym (λ i. Some (record { key = same i; scope = slot.scope.0; verdict = slot.verdict }))
        by false is = sym (found scopes k table before)

    -- a slot under which nothing is held is not live
    not_live : (k : Key) (e : Slot) → held_at scopes k (Some e) ≡ None → is_live scopes e.scope ≡ false
    not_live k e none = by (is_live scopes e.scope) refl none
      where
        by : (b : Bool) → is_live scopes e.scope ≡ b → cond {A = Option Held} b (Some (record { key = k; scope = e.scope.0; verdict = e.verdict })) None ≡ None → is_live scopes e.scope ≡ false
        by true live some = absurd (true≢false (ap is_some some))
        by false gone none = gone

    one_more_goes : (table : List (CacheKey × Slot)) → held_at scopes (key_of key) (slot_under (key_of key) table) ≡ None
        → length (filter goes (filled table)) ≡ length (filter goes table) + 1
    one_more_goes [] none = ap (λ b. length {A = CacheKey × Slot} (cond b ((key, slot) ∷ []) [])) opened
    one_more_goes (e ∷ es) none = by (eq key e.0) refl (goes e) refl (one_more_goes es)
      where
        at : is_at (key_of key) e.0 ≡ eq key e.0
        at = sym (finds_as key e.0)

        by : (b : Bool) → eq key e.0 ≡ b → (g : Bool) → goes e ≡ g
            → (held_at scopes (key_of key) (slot_under (key_of key) es) ≡ None → length (filter goes (filled es)) ≡ length (filter goes es) + 1)
            → length (filter goes (if b then (e.0, slot) ∷ es else e ∷ filled es)) ≡ length (filter goes (e ∷ es)) + 1
        by true same g is rest =
            let here : held_at scopes (key_of key) (Some e.1) ≡ None =
            sym (ap (λ t. held_at scopes (key_of key) (cond t (Some e.1) (slot_under (key_of key) es))) (at ∙ same)) ∙ none in
            let gone = not_live (key_of key) e.1 here in
            ap (λ b. length {A = CacheKey × Slot} (cond b ((e.0, slot) ∷ filter goes es) (filter goes es))) opened
            ∙ (omega arith ∙ ap (λ b. length (cond b (e ∷ filter goes es) (filter goes es)) + 1) (sym gone))
        by false apart g is rest =
            let later = rest (sym (ap (λ t. held_at scopes (key_of key) (cond t (Some e.1) (slot_under (key_of key) es))) (at ∙ apart)) ∙ none) in
            both (goes e) later
          where
            both : (g : Bool) → length (filter goes (filled es)) ≡ length (filter goes es) + 1
                → length (cond g (e ∷ filter goes (filled es)) (filter goes (filled es))) ≡ length (cond g (e ∷ filter goes es) (filter goes es)) + 1
            both true more = omega (arith, more)
            both false more = more

    pub one_more : (table : List (CacheKey × Slot)) → IsDistinct eq (keys_of table) → held_under (key_of key) (shown scopes table) ≡ None
        → length (shown scopes (filled table)) ≡ length (shown scopes table) + 1
    one_more table unique none =
        length-map (filter goes (filled table)) held_of
        ∙ (one_more_goes table (sym (found scopes (key_of key) table unique) ∙ none)
        ∙ ap (λ n. n + 1) (sym (length-map (filter goes table) held_of)))
