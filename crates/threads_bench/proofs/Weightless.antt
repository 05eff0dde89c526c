-- Halves that weigh nothing.
use Rattle.std.proofs.Common.{arith, ◌≡◌, List, [], ◌∷◌, refl}
use Rattle.turn_cell.specs.Tokens.{TurnKnown, weight_of}

module _ {H : Type 0} (k : TurnKnown H) where
  nothing : (halves : List H) → weight_of (λ _. 0) (record { cell = k.cell; halves = halves; steps = k.steps }) ≡ 0
  nothing [] = refl
  nothing (h ∷ hs) = omega (arith, nothing hs)

  pub weightless : weight_of (λ _. 0) k ≡ 0
  weightless = nothing k.halves
