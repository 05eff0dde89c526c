-- The bytes of a file that a reader holds, and where they stand in it. This project's own.
use Rattle.std.specs.Prelude.{◌≡◌, ◌<◌, ◌≤◌, ◌+◌, ◌-◌, ℕ, false, Option, Some, None, List, ◌++◌, length}
use Rattle.std.specs.Prelude.{take, drop, slice_index}
use Rattle.std.specs.Io.KnownBytes.{Consumes, IsAtEnd, Keeps}
use Rattle.stat_defs.specs.Faults.{Rose}
use Rattle.stats_io.specs.States.{SourceState}
use Rattle.stats_io.specs.declared.source.Pull.{Pull}
use Rattle.stats_io.specs.declared.source.Pull.TheVariants as pull
use Rattle.stats_io.specs.declared.pulling.Pulled.{Pulled}
use Rattle.stats_io.specs.declared.pulling.Pulled.TheVariants.{Failed, TooMany}
use Rattle.event_script.specs.Grammar.{Lacks, IsPassedOver}
use Rattle.event_script.specs.Script.{is_line}
use Rattle.event_script.specs.Said.{IsCut}
use Rattle.event_script.specs.declared.window.Window.{Window}
use Rattle.event_script.specs.declared.limits.TheConstants.{MAX_FILE_BYTES, MAX_LINE_BYTES, MAX_PULL_BYTES, MAX_HELD_BYTES}

-- the bytes that a pull took stand behind those that were held
pub record AddsBytes (before after : SourceState) (old new : List ℕ) (count most : ℕ) : Type 0 where
  pub got : List ℕ
  pub appended : new ≡ old ++ got
  pub counted : length got ≡ count
  pub some : 1 ≤ count
  pub few : count ≤ most
  pub consumed : Consumes before.left after.left got

-- how many bytes a pull took
abbrev pub count_of : Pull → ℕ
count_of (pull.Bytes count) = count
count_of pull.End = 0
count_of pull.Failed = 0

-- a pull adds what it took; at the end of the source nothing is left; a failed pull takes nothing and is counted
abbrev pub AddsPull : SourceState → SourceState → List ℕ → List ℕ → Pull → ℕ → Type 0
AddsPull before after old new (pull.Bytes count) most = AddsBytes before after old new count most
AddsPull before after old new pull.End most = (new ≡ old) × Keeps before.left after.left × IsAtEnd after.left
AddsPull before after old new pull.Failed most =
    (new ≡ old) × Keeps before.left after.left × Rose before.faults after.faults

-- how a piece behind the last newline is read: where more bytes may follow, as where the source failed
abbrev pub stop_of : Option Pulled → Pulled
stop_of None = Failed
stop_of (Some stop) = stop

-- no newline stands in it, and it is no line yet
abbrev pub IsPiece : Pulled → List ℕ → Type 0
IsPiece stop bytes = Lacks 10 bytes × (is_line stop (length bytes) ≡ false)

-- a line stands first that is not passed over
pub record HasOwnLine (stop : Pulled) (bytes : List ℕ) : Type 0 where
  pub line : List ℕ
  pub count : ℕ
  pub is_cut : IsCut stop bytes line count
  pub own : length line ≤ MAX_LINE_BYTES → ¬ IsPassedOver line

-- no byte, or a newline, stands before that place, and no newline stands behind it
pub record IsWholeEnd (bytes : List ℕ) (place : ℕ) : Type 0 where
  pub within : place ≤ length bytes
  pub newline : 0 < place → slice_index bytes (place - 1) ≡ 10
  pub last : Lacks 10 (drop place bytes)

-- What a reader holds: all bytes that were taken behind those that it has dropped, but the byte that a file has too
-- many. Newlines stand among the bytes of the last pull.
pub record IsHeld (bytes : List ℕ) (window : Window) (stopped : Option Pulled) : Type 0 where
  pub whole : IsWholeEnd bytes window.whole
  pub late : (k : ℕ) → k < length bytes → slice_index bytes k ≡ 10
      → window.taken ≤ window.dropped + k + MAX_PULL_BYTES
  pub all : window.dropped + length bytes ≤ window.taken
  pub but_one : window.taken ≤ window.dropped + length bytes + 1
  pub no_more : stopped ≡ None → window.taken ≡ window.dropped + length bytes
  pub short : window.dropped + length bytes ≤ MAX_FILE_BYTES
  pub few : window.taken ≤ window.dropped + MAX_HELD_BYTES
  pub bound : window.taken ≤ MAX_FILE_BYTES + 1

-- the byte that a file has too many was let go of
pub record IsCutShort (old new : List ℕ) (window : Window) (stop : Pulled) : Type 0 where
  pub is : stop ≡ TooMany
  pub cut : new ≡ take (MAX_FILE_BYTES - window.dropped) old
  pub count : window.taken ≡ MAX_FILE_BYTES + 1
