-- Whether a line says an event.
use Rattle.std.proofs.Common.{◌≡◌, ◌≢◌, ◌==◌, false, length, get_or, Option, None, Some, ℕ, List, [], ◌∷◌, refl, sym, ◌∙◌}
use native.Mathlib.Decide.{ℕ_discrete}
use Rattle.stat_defs.specs.declared.events.Event.{Event}
use Rattle.event_script.specs.Grammar.{IsLineOf, IsPassedOver}
use Rattle.event_script.specs.EventIn.{event_in}
use Rattle.event_script.proofs.EventLines.{found_in, line_says}

pub no_event : (line : List ℕ) → event_in line ≡ None → (e : Event) → IsLineOf line e → ⊥
no_event line none e is = let found = sym (found_in line e is) ∙ none in absurd cc

pub event_decided : (line : List ℕ) → Dec ((e : Event) × IsLineOf line e)
event_decided line = by (event_in line) refl
  where
    by : (o : Option Event) → event_in line ≡ o → Dec ((e : Event) × IsLineOf line e)
    by (Some e) is = yes (e, line_says line e is)
    by None is = no (λ q. no_event line is q.0 q.1)

pub passed_decided : (line : List ℕ) → Dec (IsPassedOver line)
passed_decided [] = yes tt
passed_decided (b ∷ bs) = ℕ_discrete b 35

pub not_passed : (line : List ℕ) → (length line == 0) ≡ false → get_or line 0 0 ≢ 35 → IsPassedOver line → ⊥
not_passed [] some other passed = absurd cc
not_passed (b ∷ bs) some other passed = other passed
