-- What the reader says of a line.
use Rattle.std.specs.Prelude.{◌≡◌, ◌<◌, ◌≤◌, ◌⊎◌, ℕ, true, List, ◌∷◌, ◌++◌, length, drop}
use Rattle.stat_defs.specs.Borrowed.{event_of}
use Rattle.event_script.specs.Grammar.{IsPassedOver, IsLineOf, IsNoLine}
use Rattle.event_script.specs.EventIn.{first_line}
use Rattle.event_script.specs.Script.{is_line, lines_until}
use Rattle.stats_io.specs.declared.pulling.Pulled.{Pulled}
use Rattle.event_script.specs.declared.cutting.Said.{Said}
use Rattle.event_script.specs.declared.cutting.Said.TheVariants.{Nothing, Event, NoLine, TooLong}
use Rattle.event_script.specs.declared.limits.TheConstants.{MAX_LINE_BYTES}

abbrev pub LineSays : List ℕ → Said → Type 0
LineSays line Nothing = (length line ≤ MAX_LINE_BYTES) × IsPassedOver line
LineSays line (Event e) = (length line ≤ MAX_LINE_BYTES) × IsLineOf line (event_of e)
LineSays line NoLine = (length line ≤ MAX_LINE_BYTES) × IsNoLine line
LineSays line TooLong = MAX_LINE_BYTES < length line

-- a newline stands behind the line, or it is the last one and has none
abbrev pub EndsLine : Pulled → List ℕ → List ℕ → ℕ → Type 0
EndsLine stop bytes line count = (bytes ≡ line ++ 10 ∷ drop count bytes)
    ⊎ ((bytes ≡ line) × (count ≡ length bytes) × (is_line stop (length line) ≡ true))

-- the first line, and how many bytes it takes
pub record IsCut (stop : Pulled) (bytes line : List ℕ) (count : ℕ) : Type 0 where
  pub first : line ≡ first_line bytes
  pub some : 0 < count
  pub within : count ≤ length bytes
  pub ends : EndsLine stop bytes line count
  pub cut : lines_until stop bytes ≡ line ∷ lines_until stop (drop count bytes)

-- the first line says this, and takes so many bytes
pub record SaysFirst (stop : Pulled) (bytes : List ℕ) (said : Said) (count : ℕ) : Type 0 where
  pub line : List ℕ
  pub says : LineSays line said
  pub is_cut : IsCut stop bytes line count
