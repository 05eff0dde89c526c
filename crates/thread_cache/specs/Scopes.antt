-- The scopes that entries of the table have. This project's own.
use Rattle.std.specs.Prelude.{◌≡◌, ◌==◌, Bool, true, false, not, is_some, Option, List}
use Rattle.std.specs.Map.{lookup}
use Rattle.std.specs.Option.{option_map_or}
use Rattle.stat_defs.specs.declared.ids.ScopeId.{ScopeId}
use Rattle.thread_cache.specs.declared.scopes.ScopeEntries.{ScopeEntries}
use Rattle.thread_cache.specs.declared.scopes.Standing.{Standing}
use Rattle.thread_cache.specs.declared.scopes.Standing.TheVariants as standing

abbrev pub entries_at : List (ScopeId × ScopeEntries) → ScopeId → Option ScopeEntries
entries_at scopes scope = lookup (λ s. scope.0 == s.0) scopes

-- a dropped scope is listed as long as the table has entries of it
abbrev pub is_listed : List (ScopeId × ScopeEntries) → ScopeId → Bool
is_listed scopes scope = is_some (entries_at scopes scope)

abbrev pub is_live : List (ScopeId × ScopeEntries) → ScopeId → Bool
is_live scopes scope = option_map_or (λ entries. not entries.dropped) (entries_at scopes scope) false

abbrev pub is_dropped : List (ScopeId × ScopeEntries) → ScopeId → Bool
is_dropped scopes scope = option_map_or (λ entries. entries.dropped) (entries_at scopes scope) false

-- how the scope stands before an entry of it is counted
abbrev pub IsStanding : List (ScopeId × ScopeEntries) → ScopeId → Standing → Type 0
IsStanding scopes scope standing.Live = is_live scopes scope ≡ true
IsStanding scopes scope standing.Dropped = is_dropped scopes scope ≡ true
IsStanding scopes scope standing.Unlisted = is_listed scopes scope ≡ false
