-- What every cache keeps.
use Rattle.std.specs.Prelude.{◌≡◌, ◌<◌, true, is_some, option_map, All}
use Rattle.indexmap.specs.IndexMap.{spare}
use Rattle.thread_cache.specs.declared.cache.Cache.TheInside.{Inside}
use Rattle.thread_cache.specs.Keys.{key_of}
use Rattle.thread_cache.specs.Scopes.{is_live, is_listed}
use Rattle.thread_cache.specs.Held.{CacheState, shown}

abbrev pub state_of : Inside → CacheState
state_of c = record { entries = shown c.scopes.entries c.table.entries; room = option_map key_of c.room }

pub record IsKept (c : Inside) : Type 0 where
  -- the key that has room finds it in the table, and its scope in the list of scopes
  pub table_room : is_some c.room ≡ true → 0 < spare c.table
  pub scopes_room : is_some c.room ≡ true → 0 < spare c.scopes
  -- the scope of each entry is listed, and was not dropped where nothing is stale
  pub listed : All (λ e. is_listed c.scopes.entries e.1.scope ≡ true) c.table.entries
  pub live : c.stale ≡ 0 → All (λ e. is_live c.scopes.entries e.1.scope ≡ true) c.table.entries
