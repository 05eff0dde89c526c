use Rattle.std.proofs.Common.{◌≡◌, ◌≤◌, ◌&&◌, ◌==◌, not, take, true}
use Rattle.std.specs.List.{list_any}
use Rattle.indexmap.specs.IndexMap.{spare}
use Rattle.stat_defs.specs.declared.ids.ScopeId.{ScopeId}
use Rattle.thread_cache.specs.Scopes.{is_live, is_listed}
use Rattle.thread_cache.proofs.scopes.drop_scopes.Given as goal

abbrev pub invariant-loop-scope : goal.invariant-loop-scope
invariant-loop-scope l =
    ((s : ScopeId) → is_live l.scopes.entries s ≡ (not (list_any (λ r. r.0 == s.0) (take l.scope-index l.released)) && is_live l.fn.scopes.entries s))
    × ((s : ScopeId) → is_listed l.scopes.entries s ≡ is_listed l.fn.scopes.entries s)
    × (l.total ≡ 0 → (l.fn.stale ≡ 0) × ((s : ScopeId) → is_live l.scopes.entries s ≡ is_live l.fn.scopes.entries s))
    × (spare l.fn.scopes ≤ spare l.scopes)
    × ((s : ScopeId) → is_live l.scopes.entries s ≡ true → l.least ≤ s.0)
