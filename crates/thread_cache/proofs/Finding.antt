-- Looking a key up in what is shown of a table.
use Rattle.std.proofs.Common.{◌≡◌, Bool, true, false, cond, filter, map, Option, Some, None, List, [], ◌∷◌, All, refl, sym, ap, subst, ◌∙◌, option_map, true≢false, is_none, unwrap_or}
use Rattle.std.proofs.lemmas.List.Elements.{All-head, All-tail}
use Rattle.std.specs.List.{AllByRecursion, IsDistinct}
use Rattle.std.specs.Map.{keys_of}
use Rattle.stat_defs.specs.declared.events.Key.{Key}
use Rattle.stat_defs.specs.declared.ids.ScopeId.{ScopeId}
use Rattle.stat_defs.specs.Keys.{Held, held_under, same_key, HoldsOnce}
use Rattle.thread_cache.specs.declared.key.CacheKey.{CacheKey}
use Rattle.thread_cache.specs.declared.scopes.ScopeEntries.{ScopeEntries}
use Rattle.thread_cache.specs.declared.table.Slot.{Slot}
use Rattle.thread_cache.specs.Keys.{key_of}
use Rattle.thread_cache.specs.Scopes.{is_live}
use Rattle.thread_cache.specs.Held.{held_of, shown, is_at, slot_under}
use Rattle.stat_defs.proofs.KeyLemmas.{same_key-is, same_key-refl}
use Rattle.thread_cache.specs.KeyLaws.{eq, finds_as}

-- what is held under a key whose slot in the table is this one
abbrev pub held_at : List (ScopeId × ScopeEntries) → Key → Option Slot → Option Held
held_at scopes key None = None
held_at scopes key (Some slot) = cond (is_live scopes slot.scope) (Some (record { key = key; scope = slot.scope.0; verdict = slot.verdict })) None

none_is_some : {X : Type 0} {x : X} → None ≡ Some x → ⊥
none_is_some e = true≢false (ap is_none e)

some_same : {X : Type 0} {x y : X} → Some x ≡ Some y → x ≡ y
some_same {X} {x} e = ap (λ o. unwrap_or o x) e

-- two keys of the table that are both the one key are equal
pub one_key : (key : Key) (a b : CacheKey) → is_at key a ≡ true → is_at key b ≡ true → eq a b ≡ true
one_key key a b is_a is_b =
    let same : key_of a ≡ key = same_key-is (key_of a) key is_a in
    finds_as a b ∙ (ap (λ k. same_key (key_of b) k) same ∙ is_b)

module _ (scopes : List (ScopeId × ScopeEntries)) (key : Key) where
  abbrev goes : CacheKey × Slot → Bool
  goes e = is_live scopes e.1.scope

  -- a key that is nowhere in the table is held nowhere
  absent : (table : List (CacheKey × Slot)) → AllByRecursion (λ k. is_at key k ≡ false) (keys_of table) → held_under key (shown scopes table) ≡ None
  absent [] none = refl
  absent (e ∷ es) none = by (goes e) (absent es none.1)
    where
      by : (b : Bool) → held_under key (shown scopes es) ≡ None → held_under key (map held_of (cond b (e ∷ filter goes es) (filter goes es))) ≡ None
      by true rest = ap (λ t. cond t (Some (held_of e)) (held_under key (shown scopes es))) none.0 ∙ rest
      by false rest = rest

  -- the keys apart from one that the key is at are elsewhere
  elsewhere : (at : CacheKey) → is_at key at ≡ true → (keys : List CacheKey) → AllByRecursion (λ k. eq at k ≡ false) keys
      → AllByRecursion (λ k. is_at key k ≡ false) keys
  elsewhere at here [] apart = tt
  elsewhere at here (k ∷ ks) apart = (by (is_at key k) refl, elsewhere at here ks apart.1)
    where
      by : (t : Bool) → is_at key k ≡ t → is_at key k ≡ false
      by true is = absurd (true≢false (sym (one_key key at k here is) ∙ apart.0))
      by false is = is

  step : (e : CacheKey × Slot) (es : List (CacheKey × Slot)) → AllByRecursion (λ k. eq e.0 k ≡ false) (keys_of es)
      → held_under key (shown scopes es) ≡ held_at scopes key (slot_under key es)
      → (t b : Bool) → is_at key e.0 ≡ t → goes e ≡ b
      → held_under key (map held_of (cond b (e ∷ filter goes es) (filter goes es))) ≡ held_at scopes key (cond t (Some e.1) (slot_under key es))
  step e es apart rest true true here live =
      let same : key_of e.0 ≡ key = same_key-is (key_of e.0) key here in
      ap (λ t. cond t (Some (held_of e)) (held_under key (shown scopes es))) here
      ∙ ((λ i. Some (record { key = same i; scope = e.1.scope.0; verdict = e.1.verdict }))
      ∙ sym (ap (λ b. cond b (Some (record { key = key; scope = e.1.scope.0; verdict = e.1.verdict })) None) live))
  step e es apart rest true false here gone =
      absent es (elsewhere e.0 here (keys_of es) apart)
      ∙ sym (ap (λ b. cond b (Some (record { key = key; scope = e.1.scope.0; verdict = e.1.verdict })) None) gone)
  step e es apart rest false true elsewhere_is live = ap (λ t. cond t (Some (held_of e)) (held_under key (shown scopes es))) elsewhere_is ∙ rest
  step e es apart rest false false elsewhere_is gone = rest

  -- each key is found as its slot in the table says
  pub found : (table : List (CacheKey × Slot)) → IsDistinct eq (keys_of table) → held_under key (shown scopes table) ≡ held_at scopes key (slot_under key table)
  unfolding IsDistinct
  found [] unique = refl
  found (e ∷ es) unique = step e es unique.0 (found es unique.1) (is_at key e.0) (goes e) refl refl

  -- where all scopes are live, that of a slot is
  pub live_where_all : (table : List (CacheKey × Slot)) (slot : Slot) → All (λ e. is_live scopes e.1.scope ≡ true) table
      → slot_under key table ≡ Some slot → is_live scopes slot.scope ≡ true
  live_where_all [] slot all is = absurd (none_is_some is)
  live_where_all (e ∷ es) slot all is =
      by (is_at key e.0) refl (live_where_all es slot (All-tail (λ e. is_live scopes e.1.scope ≡ true) e es all))
    where
      by : (t : Bool) → is_at key e.0 ≡ t → (slot_under key es ≡ Some slot → is_live scopes slot.scope ≡ true) → is_live scopes slot.scope ≡ true
      by true here rest =
          let same : e.1 ≡ slot = some_same (sym (ap (λ t. cond t (Some e.1) (slot_under key es)) here) ∙ is) in
          subst (λ (x : Slot). is_live scopes x.scope ≡ true) same (All-head (λ e. is_live scopes e.1.scope ≡ true) e es all)
      by false there rest = rest (sym (ap (λ t. cond t (Some e.1) (slot_under key es)) there) ∙ is)

pub verdict_held : (scopes : List (ScopeId × ScopeEntries)) (key : Key) (slot : Slot)
    → option_map (λ (held : Held). held.verdict) (held_at scopes key (Some slot)) ≡ cond (is_live scopes slot.scope) (Some slot.verdict) None
verdict_held scopes key slot = by (is_live scopes slot.scope)
  where
    by : (b : Bool) → option_map (λ (held : Held). held.verdict) (cond b (Some (record { key = key; scope = slot.scope.0; verdict = slot.verdict })) None) ≡ cond b (Some slot.verdict) None
    by true = refl
    by false = refl

module _ (scopes : List (ScopeId × ScopeEntries)) where
  -- a key that differs from those of the table differs from those that are shown of it
  apart_shown : (key : CacheKey) (table : List (CacheKey × Slot)) → AllByRecursion (λ k. eq key k ≡ false) (keys_of table)
      → AllByRecursion (λ (other : Held). same_key (key_of key) other.key ≡ false) (shown scopes table)
  apart_shown key [] apart = tt
  apart_shown key (e ∷ es) apart = by (is_live scopes e.1.scope) (apart_shown key es apart.1)
    where
      differ : (t : Bool) → same_key (key_of key) (key_of e.0) ≡ t → same_key (key_of key) (key_of e.0) ≡ false
      differ true is = absurd (true≢false (
          sym (finds_as key e.0 ∙ (ap (λ k. same_key (key_of e.0) k) (same_key-is (key_of key) (key_of e.0) is) ∙ same_key-refl (key_of e.0)))
          ∙ apart.0
          ))
      differ false is = is

      by : (b : Bool) → AllByRecursion (λ (other : Held). same_key (key_of key) other.key ≡ false) (shown scopes es)
          → AllByRecursion (λ (other : Held). same_key (key_of key) other.key ≡ false)
          (map held_of (cond b (e ∷ filter (λ e. is_live scopes e.1.scope) es) (filter (λ e. is_live scopes e.1.scope) es)))
      by true rest = (differ (same_key (key_of key) (key_of e.0)) refl, rest)
      by false rest = rest

  -- no key is shown twice
  pub shown_once : (table : List (CacheKey × Slot)) → IsDistinct eq (keys_of table) → HoldsOnce (shown scopes table)
  unfolding IsDistinct
  shown_once [] unique = tt
  shown_once (e ∷ es) unique = by (is_live scopes e.1.scope) (shown_once es unique.1)
    where
      by : (b : Bool) → HoldsOnce (shown scopes es)
          → HoldsOnce (map held_of (cond b (e ∷ filter (λ e. is_live scopes e.1.scope) es) (filter (λ e. is_live scopes e.1.scope) es)))
      by true rest = (apart_shown e.0 es unique.0, rest)
      by false rest = rest
