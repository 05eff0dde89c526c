-- A look at each cell (this project's own).
use Rattle.std.specs.Prelude.{◌≡◌, ℕ, suc, List, [], ◌∷◌}
use Rattle.merge_round.specs.Halves.{HalfState}
use Rattle.merge_round.specs.Rounds.{ParentsState, with_half}
use Rattle.turn_cell.specs.declared.view.TurnKind.TheVariants.{Return}
use Rattle.turn_cell.specs.declared.flusher.Take.{Take}
use Rattle.turn_cell.specs.declared.flusher.Take.TheVariants as take
use Rattle.turn_cell.specs.Answers.{TakeFinds}
use Rattle.turn_cell.specs.Tokens.{TurnKnown, idle_known, waiting_known, holding_known, after_step}
use Rattle.flush_cells.specs.Cells.{count_in}
use Rattle.flush_cells.specs.declared.tokens.FlushCell.{FlushCell}
use Rattle.flush_cells.specs.declared.tokens.FlushCell.TheVariants.{Idle, Waiting, Holding}

-- The half is merged as one of this worker, and given back empty; or there was no memory, and it is held.
abbrev pub Merges : ℕ → HalfState → TurnKnown HalfState → ParentsState → ParentsState → FlushCell → Type 0
Merges worker half k old new (Idle f) = (word : ℕ) × (idle_known f ≡ after_step Return word k) × (new ≡ with_half worker half old)
Merges worker half k old new (Holding held f) = (held ≡ half) × (holding_known f ≡ k) × (new ≡ old)
Merges worker half k old new (Waiting f) = ⊥

-- what is done with what a look found
abbrev pub Settles : ℕ → ParentsState → ParentsState → Take HalfState → FlushCell → Type 0
Settles worker old new (take.Full half f) seat = Merges worker half (holding_known f) old new seat
Settles worker old new (take.NotYet f word) seat = (seat ≡ Waiting f) × (new ≡ old)
Settles worker old new (take.Left f) seat = (seat ≡ Idle f) × (new ≡ old)

-- One token: where the worker was asked, one look is made; a half that is held is merged.
abbrev pub Passes : ℕ → ParentsState → FlushCell → ParentsState → FlushCell → Type 0
Passes worker old (Idle f) new seat = (seat ≡ Idle f) × (new ≡ old)
Passes worker old (Waiting f) new seat = (found : Take HalfState) × TakeFinds count_in (waiting_known f) found × Settles worker old new found seat
Passes worker old (Holding half f) new seat = Merges worker half (holding_known f) old new seat

-- each token, of the workers from this one on
abbrev pub PassesEach : ℕ → ParentsState → List FlushCell → ParentsState → List FlushCell → Type 0
PassesEach worker old [] new [] = new ≡ old
PassesEach worker old (seat ∷ seats) new (next ∷ nexts) = (mid : ParentsState) × Passes worker old seat mid next × PassesEach (suc worker) mid seats new nexts
PassesEach worker old _ new _ = ⊥
