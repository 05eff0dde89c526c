use Rattle.std.proofs.Common.{◌≤◌, length, subst}
use Rattle.thread_cache.specs.Held.{CacheState}
use Rattle.thread_cache.proofs.Counting.{few_shown}
use Rattle.thread_cache.proofs.cache.Cache.table_len.Goals as goal

pub returns : goal.returns
returns c =
    rw (c.len.ensures.len) (subst (λ (v : CacheState). length v.entries ≤ length c.self.inside.table.entries) c.self.view_is
    (few_shown c.self.inside.scopes.entries c.self.inside.table.entries))
