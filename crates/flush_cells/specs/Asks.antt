-- Requests (this project's own).
use Rattle.std.specs.Prelude.{◌≡◌, List, [], ◌∷◌}
use Rattle.turn_cell.specs.declared.view.TurnKind.TheVariants.{Ask}
use Rattle.turn_cell.specs.Tokens.{idle_known, waiting_known, after_step}
use Rattle.flush_cells.specs.declared.tokens.FlushCell.{FlushCell}
use Rattle.flush_cells.specs.declared.tokens.FlushCell.TheVariants.{Idle, Waiting, Holding}

-- one request: the worker is asked now, or it left and the token stays idle
abbrev pub Asks : FlushCell → FlushCell → Type 0
Asks (Idle f) (Waiting w) = waiting_known w ≡ after_step Ask 0 (idle_known f)
Asks (Idle f) (Idle i) = idle_known i ≡ after_step Ask 8 (idle_known f)
Asks (Idle f) (Holding half g) = ⊥
Asks other new = new ≡ other

abbrev pub AsksEach : List FlushCell → List FlushCell → Type 0
AsksEach [] [] = Unit {0}
AsksEach (old ∷ olds) (new ∷ news) = Asks old new × AsksEach olds news
AsksEach _ _ = ⊥
