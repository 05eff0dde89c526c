-- Counting the items that pass a test, one by one.
use Rattle.std.proofs.Common.{◌≡◌, ◌<◌, ◌≤◌, ℕ, ◌+◌, Bool, cond, not, filter, refl, take, length, slice_get, Some, List, ap, sym, ◌∙◌, arith, inl, inr}
use Rattle.std.proofs.lemmas.List.{length-map}
use Rattle.std.proofs.lemmas.List.Filters.{length-filter_both, length-filter_more}
use Rattle.std.proofs.lemmas.Option.{slice_get_cases}
use Rattle.stat_defs.specs.declared.ids.ScopeId.{ScopeId}
use Rattle.thread_cache.specs.declared.key.CacheKey.{CacheKey}
use Rattle.thread_cache.specs.declared.scopes.ScopeEntries.{ScopeEntries}
use Rattle.thread_cache.specs.declared.table.Slot.{Slot}
use Rattle.thread_cache.specs.Scopes.{is_live}
use Rattle.thread_cache.specs.Held.{held_of, shown}

pub one_on : {X : Type 0} (p : X → Bool) (xs : List X) (i : ℕ) (b : Bool) → i < length xs → ((x : X) → slice_get xs i ≡ Some x → b ≡ p x)
    → length (filter p (take (i + 1) xs)) ≡ length (filter p (take i xs)) + cond b 1 0
one_on p xs i b within tells = elim (slice_get_cases xs i).1 [
  | inl here ↦ length-filter_more p xs i here.0 within ∙ ap (λ t. length (filter p (take i xs)) + cond t 1 0) (ap p here.3 ∙ sym (tells here.0 here.2))
  | inr past ↦ absurd (omega (arith, within, past.0))
]

-- no more is shown than the table has
pub few_shown : (scopes : List (ScopeId × ScopeEntries)) (table : List (CacheKey × Slot)) → length (shown scopes table) ≤ length table
few_shown scopes table =
    let p : CacheKey × Slot → Bool = λ e. is_live scopes e.1.scope in
    omega (arith, length-map (filter p table) held_of, length-filter_both p (λ e. not (p e)) (λ e. refl) table)
