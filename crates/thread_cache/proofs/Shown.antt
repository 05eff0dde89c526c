-- What is shown of a table.
use Rattle.std.proofs.Common.{◌≡◌, Bool, true, cond, filter, map, List, [], ◌∷◌, All, refl, ap, ◌∙◌}
use Rattle.std.proofs.lemmas.List.Elements.{All-head, All-tail, All-weaker, filter_passes}
use Rattle.stat_defs.specs.declared.ids.ScopeId.{ScopeId}
use Rattle.thread_cache.specs.declared.key.CacheKey.{CacheKey}
use Rattle.thread_cache.specs.declared.scopes.ScopeEntries.{ScopeEntries}
use Rattle.thread_cache.specs.declared.table.Slot.{Slot}
use Rattle.thread_cache.specs.Scopes.{is_live}
use Rattle.thread_cache.specs.Held.{held_of, shown}

-- tests that agree on the items keep the same
pub filter-agree : {X : Type 0} (p q : X → Bool) (xs : List X) → All (λ x. p x ≡ q x) xs → filter p xs ≡ filter q xs
filter-agree p q [] same = refl
filter-agree p q (x ∷ xs) same =
    let here = All-head (λ x. p x ≡ q x) x xs same in
    let rest = filter-agree p q xs (All-tail (λ x. p x ≡ q x) x xs same) in
    λ i. cond (here i) (x ∷ rest i) (rest i)

pub filter-all : {X : Type 0} (p : X → Bool) (xs : List X) → All (λ x. p x ≡ true) xs → filter p xs ≡ xs
filter-all p [] passes = refl
filter-all p (x ∷ xs) passes =
    let here = All-head (λ x. p x ≡ true) x xs passes in
    let rest = filter-all p xs (All-tail (λ x. p x ≡ true) x xs passes) in
    λ i. cond (here i) (x ∷ rest i) (rest i)

-- scopes that are live alike show the same
pub shown-alike : (a b : List (ScopeId × ScopeEntries)) (table : List (CacheKey × Slot)) → ((s : ScopeId) → is_live a s ≡ is_live b s) → shown a table ≡ shown b table
shown-alike a b table same = λ i. map held_of (filter (λ e. same e.1.scope i) table)

pub shown-kept : (scopes : List (ScopeId × ScopeEntries)) (table : List (CacheKey × Slot)) → shown scopes (filter (λ e. is_live scopes e.1.scope) table) ≡ shown scopes table
shown-kept scopes table = ap (map held_of) (filter-all (λ e. is_live scopes e.1.scope) _ (filter_passes (λ e. is_live scopes e.1.scope) table))

pub all_live-kept : (old new : List (ScopeId × ScopeEntries)) (table : List (CacheKey × Slot)) → ((s : ScopeId) → is_live new s ≡ is_live old s)
    → All (λ e. is_live new e.1.scope ≡ true) (filter (λ e. is_live old e.1.scope) table)
all_live-kept old new table same =
    All-weaker (λ e. is_live old e.1.scope ≡ true) (λ e. is_live new e.1.scope ≡ true) (λ e live. same e.1.scope ∙ live) _
    (filter_passes (λ e. is_live old e.1.scope) table)
