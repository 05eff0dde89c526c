-- What the flusher's calls and `close` answer (this project's own).
use Rattle.std.specs.Prelude.{◌≡◌, ℕ, ◌≤◌, Bool, true, false, List, [], ◌∷◌}
use Rattle.turn_cell.specs.declared.limits.TheConstants.{MAX_TURNED}
use Rattle.turn_cell.specs.declared.view.TurnKind.TheVariants.{Load, Collect, Return}
use Rattle.turn_cell.specs.declared.tokens.FlushIdle.{FlushIdle}
use Rattle.turn_cell.specs.declared.tokens.FlushWaiting.{FlushWaiting}
use Rattle.turn_cell.specs.declared.flusher.Request.{Request}
use Rattle.turn_cell.specs.declared.flusher.Request.TheVariants.{Asked, Left as Gone}
use Rattle.turn_cell.specs.declared.flusher.Take.{Take}
use Rattle.turn_cell.specs.declared.flusher.Take.TheVariants.{Full, NotYet, Left}
use Rattle.turn_cell.specs.Steps.{TellsFull, TellsNotYet}
use Rattle.turn_cell.specs.Tokens.{TurnKnown, idle_known, waiting_known, holding_known, after_step, with_half}
use Rattle.turn_cell.specs.Tokens.{weight_of}

module _ {H : Type 0} where
  abbrev pub MatchRequest : Request H → (FlushWaiting H → Type 0) → (FlushIdle H → Type 0) → Type 0
  MatchRequest (Asked w) A L = A w
  MatchRequest (Gone i) A L = L i

  -- What a take finds, of a flusher that knew k. Its load found 3 or 11, and then its next step took the
  -- half; or it found 1 or 2, which it tells; or 9, and it took its request back.
  abbrev pub TakeFinds : (H → ℕ) → TurnKnown H → Take H → Type 0
  TakeFinds weighs k (Full half f) = (found later : ℕ) × TellsFull found × TellsFull later
      × (holding_known f ≡ with_half half (after_step Collect later (after_step Load found k)))
      × (weight_of weighs (holding_known f) ≤ MAX_TURNED)
  TakeFinds weighs k (NotYet f word) = TellsNotYet word × (waiting_known f ≡ after_step Load word k)
  TakeFinds weighs k (Left f) = idle_known f ≡ after_step Return 9 (after_step Load 9 k)

  -- what close gives beside the halves that were taken
  abbrev pub full_one : Bool → H → List H
  full_one true half = half ∷ []
  full_one false half = []
