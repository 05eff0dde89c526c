-- Lines that a reader passes over or reads. This project's own.
use Rattle.std.specs.Prelude.{◌≡◌, ◌<◌, ◌≤◌, ◌+◌, ◌-◌, ◌⊎◌, ℕ, Option, MatchOption, List, [], ◌++◌, length, drop, slice_index, Result}
use Rattle.stat_defs.specs.declared.events.Event.{Event}
use Rattle.stat_defs.specs.declared.memory.NoMemory.{NoMemory}
use Rattle.stat_defs.specs.declared.reports.FileEnd.{FileEnd}
use Rattle.stats_io.specs.declared.pulling.Pulled.{Pulled}
use Rattle.event_script.specs.declared.cutting.Place.{Place}
use Rattle.event_script.specs.declared.limits.TheConstants.{MAX_FILE_BYTES, MAX_LINE_BYTES, MAX_EVENTS}
use Rattle.event_script.specs.declared.step.Step.{Step}
use Rattle.event_script.specs.Grammar.{IsPassedOver}
use Rattle.event_script.specs.Said.{IsCut}
use Rattle.event_script.specs.Reader.{Gives}
use Rattle.event_script.specs.Window.{stop_of}
use Rattle.event_script.specs.Answer.{events_answered, end_of, IfEnded, IfEvent, IsLineFault}

-- what the bytes give from that place on, so many being dropped before them
abbrev pub GivesAt : Option Pulled → List ℕ → ℕ → Place → List ℕ → Pulled → List Event → FileEnd → Type 0
GivesAt stopped bytes dropped place more last events end =
    Gives stopped place.number place.given (dropped + place.at) (drop place.at bytes) more last events end

-- the first line is not passed over
abbrev pub HasNoPassed : Pulled → List ℕ → Type 0
HasNoPassed stop bytes = (line : List ℕ) (count : ℕ) → IsCut stop bytes line count → length line ≤ MAX_LINE_BYTES
    → ¬ IsPassedOver line

-- the lines from old to new give nothing
pub record PassesOver (stop : Pulled) (bytes : List ℕ) (old new : Place) : Type 0 where
  pub onward : old.at ≤ new.at
  pub number : old.number ≤ new.number
  pub numbered : new.number + old.at ≤ old.number + new.at
  pub given : new.given ≡ old.given
  pub gives : (stopped : Option Pulled) → stop_of stopped ≡ stop → (dropped : ℕ) → dropped + length bytes ≤ MAX_FILE_BYTES
      → (more : List ℕ) (last : Pulled) (events : List Event) (end : FileEnd)
      → GivesAt stopped bytes dropped new more last events end → GivesAt stopped bytes dropped old more last events end

-- a line ends before that place, at its newline or with the bytes
abbrev pub IsLineEnd : List ℕ → ℕ → Type 0
IsLineEnd bytes at = (at ≡ length bytes) ⊎ ((0 < at) × (slice_index bytes (at - 1) ≡ 10))

-- the line at the place gives this answer, and what comes behind it comes from the new place on
pub record ReadsLine (stop : Pulled) (bytes : List ℕ) (old new : Place) (answer : Result Step NoMemory) : Type 0 where
  pub onward : old.at ≤ new.at
  pub number : IfEvent answer (old.number < new.number)
  pub numbered : new.number + old.at ≤ old.number + new.at
  pub given : new.given ≡ old.given + length (events_answered answer)
  pub few : new.given ≤ MAX_EVENTS
  pub ends : IfEnded answer IsLineFault
  pub near : IfEvent answer (IsLineEnd bytes new.at)
  pub gives : (stopped : Option Pulled) → stop_of stopped ≡ stop → (dropped : ℕ) → dropped + length bytes ≤ MAX_FILE_BYTES
      → (more : List ℕ) (last : Pulled) (events : List Event) (end : FileEnd)
      → MatchOption (end_of answer) (GivesAt stopped bytes dropped new more last events end)
      (λ ended. (events ≡ []) × (end ≡ ended))
      → GivesAt stopped bytes dropped old more last (events_answered answer ++ events) end
