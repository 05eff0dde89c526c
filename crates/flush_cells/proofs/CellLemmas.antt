-- What one look leaves.
use Rattle.std.proofs.Common.{◌≡◌, ℕ, ◌+◌, ◌≤◌, List, [], ◌∷◌, ◌++◌, length, length-append, append-nil, ap, ◌∙◌, arith}
use Rattle.std.proofs.lemmas.List.Concat.{flat_map-append}
use Rattle.seat_parts.proofs.Sums.{total-append}
use Rattle.merge_round.specs.Halves.{HalfState}
use Rattle.turn_cell.specs.declared.view.TurnKind.TheVariants.{Load, Collect}
use Rattle.turn_cell.specs.Tokens.{TurnKnown, after_step, with_half, weight_of}
use Rattle.flush_cells.specs.declared.tokens.FlushCell.{FlushCell}
use Rattle.flush_cells.specs.declared.tokens.FlushCell.TheVariants.{Idle, Waiting, Holding}
use Rattle.flush_cells.specs.Cells.{count_in, merged_count, held_weight, taken_weight}
use Rattle.merge_round.specs.Rounds.{ParentsState, with_half as merged, all_values}
use Rattle.flush_cells.specs.Passes.{Merges}

-- a merge leaves the halves that were taken
pub merged_weight : (worker : ℕ) (half : HalfState) (k : TurnKnown HalfState) (P Q : ParentsState) (c : FlushCell) → Merges worker half k P Q c → taken_weight c ≡ weight_of count_in k
merged_weight worker half k P Q (Idle f) m = ap (weight_of count_in) m.1
merged_weight worker half k P Q (Holding h f) m = ap (weight_of count_in) m.1
merged_weight worker half k P Q (Waiting f) m = absurd m

pub merged_held : (worker : ℕ) (half : HalfState) (k : TurnKnown HalfState) (P Q : ParentsState) (c : FlushCell) → Merges worker half k P Q c → held_weight c ≤ length half.values
merged_held worker half k P Q (Idle f) m = search arith
merged_held worker half k P Q (Holding h f) m = let e = ap count_in m.0 in omega (arith, e)
merged_held worker half k P Q (Waiting f) m = absurd m

-- a half more weighs as much more
pub with_half_weight : (old new : TurnKnown HalfState) (half : HalfState) (found later : ℕ) → new ≡ with_half half (after_step Collect later (after_step Load found old))
    → weight_of count_in new ≡ weight_of count_in old + length half.values
with_half_weight old new half found later e =
    let k = ap (weight_of count_in) e in let more = total-append count_in old.halves (half ∷ []) in omega (arith, k, more)

-- one half more was merged
pub merged_more : (worker : ℕ) (half : HalfState) (p : ParentsState) → merged_count (merged worker half p) ≡ merged_count p + length half.values
merged_more worker half p = ap length (flat_map-append (λ (h : HalfState). h.values) p.all (half ∷ [])) ∙ (length-append (all_values p.all) (half.values ++ []) ∙ ap (λ (l : List (ℕ × ℕ)). merged_count p + length l) (append-nil half.values))
