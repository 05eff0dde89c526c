-- The events and the end of an event file. This project's own.
use Rattle.std.specs.Prelude.{◌≡◌, ◌<◌, ◌≤◌, ◌+◌, ◌-◌, ◌⊎◌, ℕ, ◌==◌, nat_lt, Bool, if◌then◌else◌, List, [], ◌∷◌, length}
use Rattle.std.specs.Prelude.{take}
use Rattle.std.specs.List.{slice_split}
use Rattle.stat_defs.specs.declared.events.Event.{Event}
use Rattle.stat_defs.specs.declared.reports.FileEnd.{FileEnd}
use Rattle.stat_defs.specs.declared.reports.FileEnd.TheVariants as file
use Rattle.stats_io.specs.declared.pulling.Pulled.{Pulled}
use Rattle.stats_io.specs.declared.pulling.Pulled.TheVariants.{End, TooMany, Failed}
use Rattle.event_script.specs.declared.limits.TheConstants.{MAX_FILE_BYTES, MAX_LINE_BYTES, MAX_EVENTS}
use Rattle.event_script.specs.Grammar.{IsPassedOver, IsLineOf, IsNoLine}

-- A piece of so many bytes behind which no newline stands is a line at the end of the file, where it is not empty.
-- Where the bytes stopped before that end, it is one only if it has more bytes than a line may have.
abbrev pub is_line : Pulled → ℕ → Bool
is_line End count = nat_lt 0 count
is_line TooMany count = nat_lt MAX_LINE_BYTES count
is_line Failed count = nat_lt MAX_LINE_BYTES count

-- the pieces are lines, but the last only where it is one
abbrev pub piece_lines : Pulled → List (List ℕ) → List (List ℕ)
piece_lines stop [] = []
piece_lines stop (piece ∷ []) = if is_line stop (length piece) then piece ∷ [] else []
piece_lines stop (piece ∷ (next ∷ pieces)) = piece ∷ piece_lines stop (next ∷ pieces)

-- the lines of these bytes, which are split at each newline
abbrev pub lines_until : Pulled → List ℕ → List (List ℕ)
lines_until stop bytes = piece_lines stop (slice_split (λ b. b == 10) bytes)

-- how a file ends whose lines were all read
abbrev pub end_by : Pulled → FileEnd
end_by End = file.Whole
end_by TooMany = file.TooBig
end_by Failed = file.ReadFault

-- The event comes, and then what comes behind it; or it is one too many, since so many stand before it, and ends the
-- file.
abbrev pub GivesEvent : Event → ℕ → (List Event → Type 0) → List Event → FileEnd → Type 0
GivesEvent e given Behind events end =
    ((rest : List Event) × (given < MAX_EVENTS) × (events ≡ e ∷ rest) × Behind rest)
    ⊎ ((MAX_EVENTS ≤ given) × (events ≡ []) × (end ≡ file.TooMany))

-- What the lines say, the first of them having that number, and so many events standing before it. A line is too long,
-- and ends
-- the file; or it is no longer than a line may be, and passed over, or an event, or of no meaning, and ends the file.
-- Where no
-- line ends the file, it ends as the bytes stopped.
abbrev pub LinesGive : ℕ → ℕ → List (List ℕ) → Pulled → List Event → FileEnd → Type 0
LinesGive number given [] stop events end = (events ≡ []) × (end ≡ end_by stop)
LinesGive number given (line ∷ lines) stop events end =
    ((MAX_LINE_BYTES < length line) × (events ≡ []) × (end ≡ file.LineTooLong number))
    ⊎ ((length line ≤ MAX_LINE_BYTES) × (
    (IsPassedOver line × LinesGive (number + 1) given lines stop events end)
    ⊎ (((e : Event) × IsLineOf line e
    × GivesEvent e given (λ rest. LinesGive (number + 1) (given + 1) lines stop rest end) events end)
    ⊎ (IsNoLine line × (events ≡ []) × (end ≡ file.BadLine number)))))

-- The same of the bytes of a file behind its first `offset` ones. Past the limit of a file only the bytes within it
-- count, and
-- where no fault stands at one of them the file is too big.
abbrev pub FileFrom : ℕ → ℕ → ℕ → List ℕ → Pulled → List Event → FileEnd → Type 0
FileFrom number given offset bytes stop events end =
    (offset + length bytes ≤ MAX_FILE_BYTES → LinesGive number given (lines_until stop bytes) stop events end)
    × (MAX_FILE_BYTES < offset + length bytes
    → LinesGive number given (lines_until TooMany (take (MAX_FILE_BYTES - offset) bytes)) TooMany events end)

-- The events and the end of a file of these bytes. Its lines are numbered from 1; the fault at the least byte ends it:
-- the byte
-- that the file has too many; the byte that a line has too many; the newline, or the end of the file, behind a line of
-- no meaning, and behind the event that is one too many. Where two stand at one byte, the first of these ends it.
abbrev pub File : List ℕ → List Event → FileEnd → Type 0
File bytes events end = FileFrom 1 0 0 bytes End events end

-- The events of a file that could not be read on behind these bytes: those of the lines whose newline is there, where
-- no fault
-- stands at one of these bytes.
abbrev pub FileToFault : List ℕ → List Event → Type 0
FileToFault bytes events = FileFrom 1 0 0 bytes Failed events file.ReadFault
