use Rattle.std.proofs.Common.{◌≡◌, ℕ, take, if◌then◌else◌}
use Rattle.plain_store.specs.Sums.{number_at, is_among}
use Rattle.plain_store.proofs.record.empty.Given as goal

abbrev pub invariant-loop-delta : goal.invariant-loop-delta
invariant-loop-delta l = (k : ℕ) → number_at l.deltas.items k ≡ (if is_among (take l.delta-index l.shown) k then 0 else number_at l.initial.deltas.items k)
