-- An entry more of a scope that was not dropped.
use Rattle.std.proofs.Common.{◌≡◌, Bool, true, false, not, ◌==◌, ◌||◌, map, is_some, Option, Some, None, List, All, refl, sym, ap, subst, ◌∙◌, true≢false}
use Rattle.std.proofs.lemmas.Bool.{eqb-true}
use Rattle.std.proofs.lemmas.List.Elements.{All-weaker}
use Rattle.std.specs.Option.{option_map_or}
use Rattle.stat_defs.specs.declared.ids.ScopeId.{ScopeId}
use Rattle.thread_cache.specs.declared.key.CacheKey.{CacheKey}
use Rattle.thread_cache.specs.declared.scopes.ScopeEntries.{ScopeEntries}
use Rattle.thread_cache.specs.declared.table.Slot.{Slot}
use Rattle.thread_cache.specs.Scopes.{is_live, is_listed, is_dropped, entries_at}
use Rattle.thread_cache.specs.Held.{held_of, shown}
use Rattle.thread_cache.proofs.Shown.{filter-agree}

-- a scope that is listed and was not dropped is live
pub live_of_listed : (scopes : List (ScopeId × ScopeEntries)) (s : ScopeId) → is_listed scopes s ≡ true → is_dropped scopes s ≡ false → is_live scopes s ≡ true
live_of_listed scopes s = by (entries_at scopes s)
  where
    by : (r : Option ScopeEntries) → is_some r ≡ true → option_map_or (λ entries. entries.dropped) r false ≡ false
        → option_map_or (λ entries. not entries.dropped) r false ≡ true
    by None listed kept = absurd (true≢false (sym listed))
    by (Some entries) listed kept = ap not kept

same_scope : (a b : ScopeId) → (a.0 == b.0) ≡ true → a ≡ b
same_scope a b same = λ i. record { 0 = eqb-true a.0 b.0 same i }

module _ (old new : List (ScopeId × ScopeEntries)) (scope : ScopeId) (kept : is_dropped old scope ≡ false)
    (opened : (s : ScopeId) → is_live new s ≡ (scope.0 == s.0 || is_live old s)) where
  as_before : (s : ScopeId) → is_listed old s ≡ true → is_live new s ≡ is_live old s
  as_before s listed = by (scope.0 == s.0) refl
    where
      by : (b : Bool) → (scope.0 == s.0) ≡ b → is_live new s ≡ is_live old s
      by true same =
          let live : is_live old s ≡ true = live_of_listed old s listed (subst (λ x. is_dropped old x ≡ false) (same_scope scope s same) kept) in
          opened s ∙ (ap (λ b. b || is_live old s) same ∙ sym live)
      by false other = opened s ∙ ap (λ b. b || is_live old s) other

  pub shown-opened : (table : List (CacheKey × Slot)) → All (λ e. is_listed old e.1.scope ≡ true) table → shown new table ≡ shown old table
  shown-opened table listed = ap (map held_of) (filter-agree (λ e. is_live new e.1.scope) (λ e. is_live old e.1.scope) table
      (All-weaker (λ e. is_listed old e.1.scope ≡ true) (λ e. is_live new e.1.scope ≡ is_live old e.1.scope) (λ e listed. as_before e.1.scope listed) table listed))

-- where a scope is not listed, it was not dropped; where it was dropped, it is not live
pub unlisted : (scopes : List (ScopeId × ScopeEntries)) (s : ScopeId) → is_listed scopes s ≡ false → is_dropped scopes s ≡ false
unlisted scopes s = by (entries_at scopes s)
  where
    by : (r : Option ScopeEntries) → is_some r ≡ false → option_map_or (λ entries. entries.dropped) r false ≡ false
    by None not_listed = refl
    by (Some entries) not_listed = absurd (true≢false not_listed)

pub dropped_not_live : (scopes : List (ScopeId × ScopeEntries)) (s : ScopeId) → is_dropped scopes s ≡ true → is_live scopes s ≡ false
dropped_not_live scopes s = by (entries_at scopes s)
  where
    by : (r : Option ScopeEntries) → option_map_or (λ entries. entries.dropped) r false ≡ true → option_map_or (λ entries. not entries.dropped) r false ≡ false
    by None dropped = absurd (true≢false (sym dropped))
    by (Some entries) dropped = ap not dropped

pub listed_of_live : (scopes : List (ScopeId × ScopeEntries)) (s : ScopeId) → is_live scopes s ≡ true → is_listed scopes s ≡ true
listed_of_live scopes s = by (entries_at scopes s)
  where
    by : (r : Option ScopeEntries) → option_map_or (λ entries. not entries.dropped) r false ≡ true → is_some r ≡ true
    by None live = absurd (true≢false (sym live))
    by (Some entries) live = refl
