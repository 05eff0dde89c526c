-- What callers see of a cache (Envoy's design note on statistics: a thread's own cache of what it found).
use Rattle.std.specs.Prelude.{Bool, Option, Some, None, List, if◌then◌else◌, filter, map}
use Rattle.stat_defs.specs.declared.events.Key.{Key}
use Rattle.stat_defs.specs.declared.ids.ScopeId.{ScopeId}
use Rattle.std.specs.Map.{lookup}
use Rattle.stat_defs.specs.Keys.{Held, held_under, same_key, is_through}
use Rattle.thread_cache.specs.declared.key.CacheKey.{CacheKey}
use Rattle.thread_cache.specs.declared.scopes.ScopeEntries.{ScopeEntries}
use Rattle.thread_cache.specs.declared.table.Slot.{Slot}
use Rattle.thread_cache.specs.Keys.{key_of}
use Rattle.thread_cache.specs.Scopes.{is_live}

-- the entries that are held, and the key that has room for an entry
pub record CacheState : Type 0 where
  pub entries : List Held
  pub room : Option Key

abbrev pub held_of : CacheKey × Slot → Held
held_of e = record { key = key_of e.0; scope = e.1.scope.0; verdict = e.1.verdict }

-- the entries of scopes that were not dropped
abbrev pub shown : List (ScopeId × ScopeEntries) → List (CacheKey × Slot) → List Held
shown scopes table = map held_of (filter (λ e. is_live scopes e.1.scope) table)

-- what the table has under a key, be its scope live or not
abbrev pub is_at : Key → CacheKey → Bool
is_at key at = same_key (key_of at) key

abbrev pub slot_under : Key → List (CacheKey × Slot) → Option Slot
slot_under key table = lookup (is_at key) table

-- what is held under each key once this is held
abbrev pub held_with : Held → List Held → Key → Option Held
held_with held entries key = if same_key held.key key then Some held else held_under key entries

-- what is left of what was held once these scopes were dropped
abbrev pub held_without : List ScopeId → Option Held → Option Held
held_without scopes None = None
held_without scopes (Some held) = if is_through scopes held then None else Some held
