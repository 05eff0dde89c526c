-- What was read of files, each by itself, by one reader or by readers side by side. This project's own.
use Rattle.std.specs.Prelude.{◌≡◌, ℕ, Bool, true, false, Option, List, [], ◌∷◌, count_by}
use Rattle.std.specs.List.{flat_map}
use Rattle.stat_defs.specs.declared.events.Event.{Event}
use Rattle.stat_defs.specs.declared.reports.FileEnd.{FileEnd}
use Rattle.stat_defs.specs.declared.reports.FileEnd.TheVariants.{Whole, BadLine, LineTooLong, TooBig, TooMany}
use Rattle.stat_defs.specs.declared.reports.FileEnd.TheVariants.{ReadFault, NotOpened}
use Rattle.stat_defs.specs.declared.reports.WorkerEnd.{WorkerEnd}
use Rattle.stats_io.specs.States.{SourceState, ShelfState}
use Rattle.event_script.specs.FileEvents.{AreEventsOf}
use Rattle.file_reading.specs.WorkerEnd.{HasCause}

-- the events that were read of a file, and how it ended
pub record FileRead : Type 0 where
  pub events : List Event
  pub end : WorkerEnd

-- the events of all files, in the order of the files
abbrev pub all_events : List FileRead → List Event
all_events files = flat_map (λ file. file.events) files

module _ {F S : Type 0} (shelf : F → ShelfState) (source : S → SourceState) (holds : List ℕ → Option (List ℕ)) where
  -- the file of that name was read: these are its events, and its end has a cause
  pub record IsFile (name : List ℕ) (before after : F) (file : FileRead) : Type 0 where
    pub run : AreEventsOf (holds name) file.end.end file.end.taken file.events
    pub cause : HasCause source (holds name) name (shelf before) (shelf after) file.end file.end.end

  -- the files of these names were taken from the shelf in order, each between two states of it, and read
  abbrev pub AreFiles : List (List ℕ) → F → F → List FileRead → Type 0
  AreFiles [] before after [] = after ≡ before
  AreFiles [] before after (file ∷ files) = ⊥
  AreFiles (name ∷ names) before after [] = ⊥
  AreFiles (name ∷ names) before after (file ∷ files) =
      (between : F) × (IsFile name before between file × AreFiles names between after files)

abbrev pub is_unopened : FileEnd → Bool
is_unopened NotOpened = true
is_unopened Whole = false
is_unopened (BadLine n) = false
is_unopened (LineTooLong n) = false
is_unopened TooBig = false
is_unopened TooMany = false
is_unopened ReadFault = false

-- how many of the files could not be opened
abbrev pub unopened : List FileRead → ℕ
unopened files = count_by (λ file. is_unopened file.end.end) files
