-- A file has a list of events and an end.
use Rattle.std.proofs.Common.{◌≤◌, ◌+◌, ◌-◌, ℕ, List, [], ◌∷◌, inl, inr, ⊎_elim, length, take, refl, arith}
use Rattle.std.proofs.lemmas.Bool.{cases_lt}
use mathlib.Core.Logic.{dite}
use Rattle.stat_defs.specs.declared.events.Event.{Event}
use Rattle.stat_defs.specs.declared.reports.FileEnd.{FileEnd}
use Rattle.stat_defs.specs.declared.reports.FileEnd.TheVariants as file
use Rattle.stats_io.specs.declared.pulling.Pulled.{Pulled}
use Rattle.stats_io.specs.declared.pulling.Pulled.TheVariants.{TooMany}
use Rattle.event_script.specs.declared.limits.TheConstants.{MAX_FILE_BYTES}
use Rattle.event_script.specs.declared.limits.TheConstants.{MAX_LINE_BYTES}
use Rattle.event_script.specs.declared.limits.TheConstants.{MAX_EVENTS}
use Rattle.event_script.specs.Grammar.{IsLineOf}
use Rattle.event_script.specs.Script.{LinesGive, end_by, lines_until, FileFrom}
use Rattle.event_script.proofs.NoEvent.{event_decided, passed_decided}

module _ (stop : Pulled) where
  -- the lines have events and an end
  abbrev Told : ℕ → ℕ → List (List ℕ) → Type 0
  Told number given lines = (events : List Event) × (end : FileEnd) × LinesGive number given lines stop events end

  module _ (number given : ℕ) (line : List ℕ) (lines : List (List ℕ)) (short : length line ≤ MAX_LINE_BYTES) where
    told_event : (e : Event) → IsLineOf line e → Told (number + 1) (given + 1) lines → Told number given (line ∷ lines)
    told_event e is next = ⊎_elim
        (λ few. (e ∷ next.0, next.1, inr (short, inr (inl (e, is, inl (next.0, few, refl, next.2))))))
        (λ many. ([], file.TooMany, inr (short, inr (inl (e, is, inr (many, refl, refl))))))
        (cases_lt given MAX_EVENTS)

    told_short : Told (number + 1) given lines → Told (number + 1) (given + 1) lines → Told number given (line ∷ lines)
    told_short behind next = dite (passed_decided line)
        (λ passed. (behind.0, behind.1, inr (short, inl (passed, behind.2))))
        (λ not_passed. dite (event_decided line)
        (λ q. told_event q.0 q.1 next)
        (λ none. ([], file.BadLine number, inr (short, inr (inr (record { not_passed = not_passed; no_event = λ e is. none (e, is) }, refl, refl))))))

  reads_total : (number given : ℕ) (lines : List (List ℕ)) → Told number given lines
  reads_total number given [] = ([], end_by stop, (refl, refl))
  reads_total number given (line ∷ lines) = ⊎_elim
      (λ long. ([], file.LineTooLong number, inl (long, refl, refl)))
      (λ short. told_short number given line lines short (reads_total (number + 1) given lines) (reads_total (number + 1) (given + 1) lines))
      (cases_lt MAX_LINE_BYTES (length line))

pub from_total : (number given offset : ℕ) (bytes : List ℕ) (stop : Pulled) → (events : List Event) × (end : FileEnd) × FileFrom number given offset bytes stop events end
from_total number given offset bytes stop = ⊎_elim
    (λ big. let r = reads_total TooMany number given (lines_until TooMany (take (MAX_FILE_BYTES - offset) bytes)) in (r.0, r.1, ((λ fits. absurd (omega (arith, big, fits))), (λ _. r.2))))
    (λ fits. let r = reads_total stop number given (lines_until stop bytes) in (r.0, r.1, ((λ _. r.2), (λ big. absurd (omega (arith, big, fits))))))
    (cases_lt MAX_FILE_BYTES (offset + length bytes))
