use Rattle.std.proofs.Common.{◌≡◌, ◌≤◌, filter, length, take}
use Rattle.thread_cache.specs.Scopes.{is_live}
use Rattle.thread_cache.proofs.table.count_live.Given as goal

abbrev pub invariant-loop-at : goal.invariant-loop-at
invariant-loop-at l = (l.count ≡ length (filter (λ e. is_live l.scopes.entries e.1.scope) (take l.at l.table.entries))) × (l.count ≤ l.at)
