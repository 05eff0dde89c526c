-- What was read of a file.
use Rattle.std.specs.Prelude.{◌≡◌, ◌≤◌, ℕ, Option, List, [], length, take}
use Rattle.stat_defs.specs.declared.events.Event.{Event}
use Rattle.stat_defs.specs.declared.reports.FileEnd.{FileEnd}
use Rattle.stat_defs.specs.declared.reports.FileEnd.TheVariants.{Whole, BadLine, LineTooLong, TooBig, TooMany}
use Rattle.stat_defs.specs.declared.reports.FileEnd.TheVariants.{ReadFault, NotOpened}
use Rattle.stats_io.specs.Told.{MayBe}
use Rattle.event_script.specs.Script.{File, FileToFault}

-- The events that were read of a file of this content, how it ended, and how many bytes were taken before a read fault.
-- Where the content is not told, they are those of some list of bytes.
abbrev pub AreEventsOf : Option (List ℕ) → FileEnd → ℕ → List Event → Type 0
AreEventsOf content NotOpened taken events = events ≡ []
AreEventsOf content ReadFault taken events =
    (bytes : List ℕ) × MayBe content bytes × (taken ≤ length bytes) × FileToFault (take taken bytes) events
AreEventsOf content Whole taken events = (bytes : List ℕ) × MayBe content bytes × File bytes events Whole
AreEventsOf content TooBig taken events = (bytes : List ℕ) × MayBe content bytes × File bytes events TooBig
AreEventsOf content TooMany taken events = (bytes : List ℕ) × MayBe content bytes × File bytes events TooMany
AreEventsOf content (BadLine n) taken events = (bytes : List ℕ) × MayBe content bytes × File bytes events (BadLine n)
AreEventsOf content (LineTooLong n) taken events = (bytes : List ℕ) × MayBe content bytes × File bytes events (LineTooLong n)
