use Rattle.std.proofs.Common.{rules, not, ap, ◌∙◌}
use Rattle.indexmap.proofs.CallerLemmas.{filter-RetainsPairs}
use Rattle.thread_cache.specs.Scopes.{is_live, is_listed}
use Rattle.thread_cache.proofs.ScopeLemmas.{is_live-kept, is_listed-kept}
use Rattle.thread_cache.proofs.scopes.forget_dropped.Goals as goal

pub returns-clause-live : goal.returns-clause-live
returns-clause-live c s =
    let left = filter-RetainsPairs _ (λ e. not e.1.dropped) _ (λ k v b w g call. search rules) _ _ c.retain.ensures.filtered in
    ap (λ es. is_live es s) left ∙ is_live-kept _ c.keys_differ.ensures s

pub returns-clause-listed : goal.returns-clause-listed
returns-clause-listed c s =
    let left = filter-RetainsPairs _ (λ e. not e.1.dropped) _ (λ k v b w g call. search rules) _ _ c.retain.ensures.filtered in
    ap (λ es. is_listed es s) left ∙ is_listed-kept _ c.keys_differ.ensures s
