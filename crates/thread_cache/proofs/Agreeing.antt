-- A cache and what its seat holds change alike.
use Rattle.std.proofs.Common.{◌≡◌, ◌++◌, Bool, true, false, cond, not, filter, if◌then◌else◌, Option, Some, None, List, [], ◌∷◌, All, refl, sym, ap, subst, ◌∙◌, true≢false}
use Rattle.std.proofs.lemmas.List.Elements.{All-head, All-tail}
use Rattle.std.proofs.lemmas.List.Folds.{find-append}
use Rattle.std.specs.List.{AllByRecursion, IsDistinct}
use Rattle.std.specs.Option.{option_or}
use Rattle.stat_defs.specs.declared.events.Key.{Key}
use Rattle.stat_defs.specs.declared.ids.ScopeId.{ScopeId}
use Rattle.stat_defs.specs.Keys.{Held, held_under, same_key, HoldsOnce, is_through}
use Rattle.stat_defs.proofs.KeyLemmas.{same_key-is}
use Rattle.thread_cache.specs.Held.{held_with, held_without}

-- an entry more, last, is held where nothing was
pub last_held : (key : Key) (one : Held) (held : List Held) → held_under one.key held ≡ None → held_under key (held ++ one ∷ []) ≡ held_with one held key
last_held key one held free = find-append (λ h. same_key h.key key) held (one ∷ []) ∙ by (same_key one.key key) refl
  where
    or_none : (o : Option Held) → option_or o None ≡ o
    or_none None = refl
    or_none (Some h) = refl

    by : (b : Bool) → same_key one.key key ≡ b → option_or (held_under key held) (cond b (Some one) None) ≡ (if b then Some one else held_under key held)
    by true is = ap (λ o. option_or o (Some one)) (subst (λ k. held_under k held ≡ None) (same_key-is one.key key is) free)
    by false is = or_none (held_under key held)

module _ (key : Key) (released : List ScopeId) (stays : Held → Bool) where
  -- entries of other keys are no answer
  elsewhere : (h : Held) (hs : List Held) → same_key h.key key ≡ true → AllByRecursion (λ other. same_key h.key other.key ≡ false) hs
      → held_under key (filter stays hs) ≡ None
  elsewhere h [] here apart = refl
  elsewhere h (x ∷ xs) here apart = by (stays x) (elsewhere h xs here apart.1)
    where
      other : same_key x.key key ≡ false
      other = go (same_key x.key key) refl
        where
          go : (b : Bool) → same_key x.key key ≡ b → same_key x.key key ≡ false
          go true is = absurd (true≢false (sym (subst (λ k. same_key h.key k ≡ true) (sym (same_key-is x.key key is)) here) ∙ apart.0))
          go false is = is

      by : (b : Bool) → held_under key (filter stays xs) ≡ None → held_under key (cond b (x ∷ filter stays xs) (filter stays xs)) ≡ None
      by true rest = ap (λ t. cond t (Some x) (held_under key (filter stays xs))) other ∙ rest
      by false rest = rest

  pub held_left : (held : List Held) → HoldsOnce held → All (λ h. stays h ≡ not (is_through released h)) held
      → held_under key (filter stays held) ≡ held_without released (held_under key held)
  unfolding IsDistinct
  held_left [] apart tells = refl
  held_left (h ∷ hs) apart tells =
      ap (λ b. held_under key (cond b (h ∷ filter stays hs) (filter stays hs))) (All-head (λ h. stays h ≡ not (is_through released h)) h hs tells)
      ∙ by (is_through released h) refl (same_key h.key key) refl (held_left hs apart.1 (All-tail (λ h. stays h ≡ not (is_through released h)) h hs tells))
    where
      by : (a : Bool) → is_through released h ≡ a → (t : Bool) → same_key h.key key ≡ t
          → held_under key (filter stays hs) ≡ held_without released (held_under key hs)
          → held_under key (cond (not a) (h ∷ filter stays hs) (filter stays hs)) ≡ held_without released (cond t (Some h) (held_under key hs))
      by true gone true here rest = elsewhere h hs here apart.0 ∙ sym (ap (λ a. if a then None else Some h) gone)
      by true gone false other rest = rest
      by false kept true here rest = ap (λ t. cond t (Some h) (held_under key (filter stays hs))) here ∙ sym (ap (λ a. if a then None else Some h) kept)
      by false kept false other rest = ap (λ t. cond t (Some h) (held_under key (filter stays hs))) other ∙ rest
