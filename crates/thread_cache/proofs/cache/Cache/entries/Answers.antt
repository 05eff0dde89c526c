use Rattle.std.proofs.Common.{subst}
use Rattle.stat_defs.specs.Keys.{HoldsOnce}
use Rattle.thread_cache.specs.Held.{CacheState}
use Rattle.thread_cache.proofs.Finding.{shown_once}
use Rattle.thread_cache.proofs.cache.Cache.entries.Goals as goal

pub returns-clause-once : goal.returns-clause-once
returns-clause-once c =
    subst (λ (v : CacheState). HoldsOnce v.entries) c.self.view_is
    (shown_once c.self.inside.scopes.entries c.self.inside.table.entries c.keys_differ.ensures)
