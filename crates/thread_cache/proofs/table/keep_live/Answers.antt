use Rattle.std.proofs.Common.{rules}
use Rattle.indexmap.proofs.CallerLemmas.{filter-RetainsPairs}
use Rattle.thread_cache.specs.Scopes.{is_live}
use Rattle.thread_cache.proofs.table.keep_live.Goals as goal

pub returns-clause-kept : goal.returns-clause-kept
returns-clause-kept c =
    filter-RetainsPairs _ (λ e. is_live c.args.scopes.now.entries e.1.scope) _ (λ k v b w g call. search rules) _ _ c.retain.ensures.filtered
