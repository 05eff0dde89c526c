use Rattle.thread_cache.proofs.ScopeLemmas.{IsLeastBefore}
use Rattle.thread_cache.proofs.scopes.least_live.Given as goal

abbrev pub invariant-loop-at : goal.invariant-loop-at
invariant-loop-at l = IsLeastBefore l.least l.at l.scopes.entries
