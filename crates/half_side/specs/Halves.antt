-- What a worker knows of its halves (this project's own). Its own calls alone change it.
use Rattle.std.specs.Prelude.{◌≡◌, ◌≢◌, ℕ, ◌+◌, Bool, true, false, List, [], length, map}
use Rattle.merge_round.specs.Halves.{HalfState, recorded}
use Rattle.turn_cell.specs.declared.view.TurnKind.TheVariants.{Load, Begin, Give}
use Rattle.turn_cell.specs.Tokens.{TurnKnown, after_step, with_half, weight_of}

-- its token of its cell, which knows the halves that were turned and its steps on the cell's word; and the active half
pub record HalfKnown : Type 0 where
  pub cell : TurnKnown HalfState
  pub active : HalfState

abbrev pub values_of : HalfState → List (ℕ × ℕ)
values_of half = half.values

-- the values of each half that was turned, in order
abbrev pub turned_in : HalfKnown → List (List (ℕ × ℕ))
turned_in k = map values_of k.cell.halves

-- the number of values of all halves
abbrev pub value_count : HalfKnown → ℕ
value_count k = weight_of (λ half. length half.values) k.cell + length k.active.values

-- one value more was recorded
abbrev pub after_recording : ℕ → ℕ → HalfKnown → HalfKnown
after_recording id v k = record { cell = k.cell; active = recorded id v k.active }

-- One load of the cell's word. Where it found 1, the half was turned as it stood, and the one that is active now has no
-- values; where it found another word, nothing else was done.
abbrev pub LooksAndTurns : Bool → HalfKnown → HalfKnown → Type 0
LooksAndTurns true k k' = (spare : HalfState) × (spare.values ≡ []) × (k' ≡ record {
  cell = with_half k.active (after_step Give 2 (after_step Begin 1 (after_step Load 1 k.cell)));
  active = spare;
})
LooksAndTurns false k k' = (word : ℕ) × (word ≢ 1)
    × (k' ≡ record { cell = after_step Load word k.cell; active = k.active })
