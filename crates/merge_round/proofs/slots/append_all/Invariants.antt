use Rattle.std.proofs.Common.{◌≡◌, ℕ, ◌<◌, ◌≤◌, [], length}
use Rattle.loglinear_bins.specs.Counts.{merged}
use Rattle.merge_round.specs.Slots.{bins_at, is_warm_at}
use Rattle.merge_round.proofs.slots.append_all.Given as goal

abbrev pub invariant-loop-i : goal.invariant-loop-i
invariant-loop-i l =
    ((id : ℕ) → id < l.i → (bins_at l.slots id ≡ merged (bins_at l.fn.slots id) (bins_at l.fn.others id)) × (bins_at l.others id ≡ []))
    × ((id : ℕ) → l.i ≤ id → (bins_at l.slots id ≡ bins_at l.fn.slots id) × (bins_at l.others id ≡ bins_at l.fn.others id))
    × ((id : ℕ) → (is_warm_at l.slots id ≡ is_warm_at l.fn.slots id) × (is_warm_at l.others id ≡ is_warm_at l.fn.others id))
    × (length l.others ≡ length l.fn.others)
