-- A file that is being read.
use Rattle.std.specs.Prelude.{◌≡◌, ◌+◌, ℕ, Option, Some, None, MatchOption, List, [], ◌++◌, length}
use Rattle.std.specs.Io.KnownBytes.{Consumes}
use Rattle.stat_defs.specs.declared.events.Event.{Event}
use Rattle.stat_defs.specs.declared.reports.FileEnd.{FileEnd}
use Rattle.stats_io.specs.States.{SourceState, IsLater}
use Rattle.stats_io.specs.declared.pulling.Pulled.{Pulled}
use Rattle.stats_io.specs.declared.pulling.Pulled.TheVariants.{End, TooMany, Failed}
use Rattle.event_script.specs.Script.{LinesGive, lines_until, FileFrom}

-- the source, the number of the next line, the numbers of events and of bytes before it, the bytes that were taken and
-- not yet read, the number of all that were taken, the source's count of faults at the start, how the source stopped,
-- and the end that was found
pub record Reading (S : Type 0) : Type 0 where
  pub source : S
  pub number : ℕ
  pub given : ℕ
  pub offset : ℕ
  pub pending : List ℕ
  pub taken : ℕ
  pub first_faults : ℕ
  pub stopped : Option Pulled
  pub ended : Option FileEnd

-- nothing was taken from the source yet, whose count of faults is this
abbrev pub unread : {S : Type 0} → S → ℕ → Reading S
unread source faults = record {
  source = source;
  number = 1;
  given = 0;
  offset = 0;
  pending = [];
  taken = 0;
  first_faults = faults;
  stopped = None;
  ended = None;
}

-- What pending bytes give from a line on, which has that number and so many events and bytes before it. Where the source
-- has not stopped, these bytes are still to be taken, and it then stops so.
abbrev pub Gives : Option Pulled → ℕ → ℕ → ℕ → List ℕ → List ℕ → Pulled → List Event → FileEnd → Type 0
Gives None number given offset pending more last events end =
    FileFrom number given offset (pending ++ more) last events end
Gives (Some stop) number given offset pending more last events end =
    LinesGive number given (lines_until stop pending) stop events end

-- the events and the end that are still to come, where these bytes are still to be taken and the source then stops so
abbrev pub Comes : {S : Type 0} → Reading S → List ℕ → Pulled → List Event → FileEnd → Type 0
Comes r more last events end =
    MatchOption r.ended (Gives r.stopped r.number r.given r.offset r.pending more last events end)
    (λ ended. (events ≡ []) × (end ≡ ended))

-- nothing comes behind the end, or behind a fault
abbrev pub MayFollow : Option Pulled → List ℕ → Pulled → Type 0
MayFollow None more last = Unit {0}
MayFollow (Some End) more last = (more ≡ []) × (last ≡ End)
MayFollow (Some Failed) more last = (more ≡ []) × (last ≡ Failed)
MayFollow (Some TooMany) more last = Unit {0}

-- From old to new these bytes were taken from the source and these events given, and what comes from new on is what was
-- to come behind them.
pub record Moves {S : Type 0} (state : S → SourceState) (old new : Reading S) (got : List ℕ)
    (events : List Event) : Type 0 where
  pub consumed : Consumes (state old.source).left (state new.source).left got
  pub later : IsLater (state old.source) (state new.source)
  pub first : new.first_faults ≡ old.first_faults
  pub taken : new.taken ≡ old.taken + length got
  pub given : new.given ≡ old.given + length events
  pub follows : (more : List ℕ) (last : Pulled) → MayFollow new.stopped more last
      → MayFollow old.stopped (got ++ more) last
  pub answers : (more : List ℕ) (last : Pulled) (others : List Event) (end : FileEnd) → MayFollow new.stopped more last
      → Comes new more last others end → Comes old (got ++ more) last (events ++ others) end
