-- The values of a worker's halves after a turn.
use Rattle.std.proofs.Common.{◌≡◌, ℕ, ◌+◌, ◌≤◌, List, [], ◌∷◌, ◌++◌, length, ap, ◌∙◌, arith}
use Rattle.seat_parts.specs.Parts.{total}
use Rattle.seat_parts.proofs.Sums.{total-append}
use Rattle.merge_round.specs.Halves.{HalfState}

abbrev pub weight : HalfState → ℕ
weight half = length half.values

-- a turn makes none more
pub turned_few : (most : ℕ) (old mid new : List HalfState) (half full spare : HalfState) → mid ≡ old → full ≡ half → new ≡ mid ++ full ∷ []
    → length spare.values ≡ 0 → total weight old + length half.values ≤ most → total weight new + length spare.values ≤ most
turned_few most old mid new half full spare mid_is full_is new_is none few =
    let all = ap (λ (l : List HalfState). total weight l) (new_is ∙ (ap (λ (l : List HalfState). l ++ full ∷ []) mid_is ∙ ap (λ (h : HalfState). old ++ h ∷ []) full_is)) in
    let more = total-append weight old (half ∷ []) in
    omega (arith, all, more, none, few)
