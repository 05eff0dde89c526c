-- One event more of a script.
use Rattle.std.proofs.Common.{◌≡◌, ◌+◌, ℕ, zero, suc, List, [], ◌∷◌, ◌++◌, refl, ap}
use Rattle.stat_defs.specs.declared.events.Event.{Event}
use Rattle.load_scripts.specs.Load.{next_state, state_behind, event_at, events_behind}

pub state_suc : (x n : ℕ) → state_behind x (suc n) ≡ next_state (state_behind x n)
state_suc x zero = refl
state_suc x (suc n) = state_suc (next_state x) n

pub events_suc : (script x n : ℕ) → events_behind script x (suc n) ≡ events_behind script x n ++ event_at script (state_behind x (suc n)) ∷ []
events_suc script x zero = refl
events_suc script x (suc n) = ap (λ (l : List Event). event_at script (next_state x) ∷ l) (events_suc script (next_state x) n)
