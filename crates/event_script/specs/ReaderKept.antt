-- What a reader of lines keeps true of its fields.
use Rattle.std.specs.Prelude.{◌≡◌, ◌≤◌, ◌+◌, ℕ, Option, Some, List, length}
use Rattle.std.specs.Io.KnownBytes.{IsAtEnd}
use Rattle.stat_defs.specs.Faults.{Rose}
use Rattle.stat_defs.specs.declared.reports.FileEnd.{FileEnd}
use Rattle.stat_defs.specs.declared.reports.FileEnd.TheVariants as file
use Rattle.stats_io.specs.States.{SourceState}
use Rattle.stats_io.specs.declared.pulling.Pulled.{Pulled}
use Rattle.stats_io.specs.declared.pulling.Pulled.TheVariants.{End, Failed}
use Rattle.event_script.specs.declared.limits.TheConstants.{MAX_EVENTS}
use Rattle.event_script.specs.declared.cutting.Place.{Place}
use Rattle.event_script.specs.declared.window.Window.{Window}
use Rattle.event_script.specs.Answer.{Explains, StoppedBy}
use Rattle.event_script.specs.Window.{IsHeld}

pub record IsReaderKept (bytes : List ℕ) (window : Window) (place : Place) (first : ℕ) (stopped : Option Pulled)
    (ended : Option FileEnd) (source : SourceState) : Type 0 where
  pub held : IsHeld bytes window stopped
  pub within : place.at ≤ length bytes
  pub numbered : place.number ≤ window.dropped + place.at + 1
  pub few : place.given ≤ MAX_EVENTS
  pub at_end : stopped ≡ Some End → IsAtEnd source.left
  pub failed : stopped ≡ Some Failed → (ended ≡ Some file.ReadFault) × Rose first source.faults
  pub explained : (end : FileEnd) → ended ≡ Some end → Explains source first end
  pub by : (end : FileEnd) → ended ≡ Some end → StoppedBy stopped end
  pub later : first ≤ source.faults
