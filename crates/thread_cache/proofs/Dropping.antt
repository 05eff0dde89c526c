-- What is shown and held once scopes were dropped.
use Rattle.std.proofs.Common.{◌≡◌, Bool, true, false, cond, not, ◌&&◌, ◌==◌, map, filter, if◌then◌else◌, Option, Some, None, List, [], ◌∷◌, refl, sym, ap, ◌∙◌}
use Rattle.std.specs.List.{list_any, IsDistinct}
use Rattle.std.specs.Map.{keys_of}
use Rattle.stat_defs.specs.declared.events.Key.{Key}
use Rattle.stat_defs.specs.declared.ids.ScopeId.{ScopeId}
use Rattle.stat_defs.specs.Keys.{Held, held_under, is_through}
use Rattle.thread_cache.specs.declared.key.CacheKey.{CacheKey}
use Rattle.thread_cache.specs.declared.scopes.ScopeEntries.{ScopeEntries}
use Rattle.thread_cache.specs.declared.table.Slot.{Slot}
use Rattle.thread_cache.specs.Scopes.{is_live}
use Rattle.thread_cache.specs.Held.{held_of, held_without, shown, slot_under}
use Rattle.thread_cache.specs.KeyLaws.{eq}
use Rattle.thread_cache.proofs.Finding.{found, held_at}

module _ (old new : List (ScopeId × ScopeEntries)) (released : List ScopeId)
    (dropped : (s : ScopeId) → is_live new s ≡ (not (list_any (λ r. r.0 == s.0) released) && is_live old s)) where
  stays : Held → Bool
  stays held = not (is_through released held)

  pub shown-dropped : (table : List (CacheKey × Slot)) → shown new table ≡ filter (λ held. not (is_through released held)) (shown old table)
  shown-dropped [] = refl
  shown-dropped (e ∷ es) =
      ap (λ b. map held_of (cond b (e ∷ filter (λ e. is_live new e.1.scope) es) (filter (λ e. is_live new e.1.scope) es))) (dropped e.1.scope)
      ∙ by (list_any (λ r. r.0 == e.1.scope.0) released) refl (is_live old e.1.scope) (shown-dropped es)
    where
      by : (a : Bool) → list_any (λ r. r.0 == e.1.scope.0) released ≡ a → (b : Bool) → shown new es ≡ filter (λ held. not (is_through released held)) (shown old es)
          → map held_of (cond (not a && b) (e ∷ filter (λ e. is_live new e.1.scope) es) (filter (λ e. is_live new e.1.scope) es))
          ≡ filter (λ held. not (is_through released held)) (map held_of (cond b (e ∷ filter (λ e. is_live old e.1.scope) es) (filter (λ e. is_live old e.1.scope) es)))
      by true is true rest =
          rest ∙ sym (ap (λ a. cond (not a) (held_of e ∷ filter (λ held. not (is_through released held)) (shown old es)) (filter (λ held. not (is_through released held)) (shown old es))) is)
      by true is false rest = rest
      by false is true rest =
          ap (λ held. held_of e ∷ held) rest
          ∙ sym (ap (λ a. cond (not a) (held_of e ∷ filter (λ held. not (is_through released held)) (shown old es)) (filter (λ held. not (is_through released held)) (shown old es))) is)
      by false is false rest = rest

  at-dropped : (key : Key) (slot : Option Slot) → held_at new key slot ≡ held_without released (held_at old key slot)
  at-dropped key None = refl
  at-dropped key (Some slot) =
      ap (λ b. cond {A = Option Held} b (Some (record { key = key; scope = slot.scope.0; verdict = slot.verdict })) None) (dropped slot.scope)
      ∙ by (list_any (λ r. r.0 == slot.scope.0) released) refl (is_live old slot.scope)
    where
      held : Held
      held = record { key = key; scope = slot.scope.0; verdict = slot.verdict }

      by : (a : Bool) → list_any (λ r. r.0 == slot.scope.0) released ≡ a → (b : Bool)
          → cond (not a && b) (Some held) None ≡ held_without released (cond b (Some held) None)
      by true is true = sym (ap (λ a. if a then None else Some held) is)
      by true is false = refl
      by false is true = sym (ap (λ a. if a then None else Some held) is)
      by false is false = refl

  pub held-dropped : (table : List (CacheKey × Slot)) → IsDistinct eq (keys_of table) → (key : Key)
      → held_under key (shown new table) ≡ held_without released (held_under key (shown old table))
  held-dropped table unique key =
      found new key table unique ∙ (at-dropped key (slot_under key table) ∙ ap (held_without released) (sym (found old key table unique)))
