-- What the reader answers.
use Rattle.std.specs.Prelude.{◌≡◌, ◌<◌, ◌≤◌, ◌+◌, All, ℕ, List, [], ◌∷◌, Option, Some, None, IfSome, length}
use Rattle.std.specs.Prelude.{Result, Ok, Err}
use Rattle.std.specs.Io.KnownBytes.{IsAtEnd}
use Rattle.stat_defs.specs.declared.events.Event.{Event}
use Rattle.stat_defs.specs.declared.reports.FileEnd.{FileEnd}
use Rattle.stat_defs.specs.declared.reports.FileEnd.TheVariants as file
use Rattle.stat_defs.specs.declared.memory.NoMemory.{NoMemory}
use Rattle.stat_defs.specs.Faults.{Rose}
use Rattle.stats_io.specs.States.{SourceState}
use Rattle.stats_io.specs.declared.pulling.Pulled.TheVariants.{End}
use Rattle.event_script.specs.declared.limits.TheConstants.{MAX_FILE_BYTES, MAX_EVENTS, MAX_PULL_BYTES, MAX_HELD_BYTES}
use Rattle.event_script.specs.Grammar.{IsLawful}
use Rattle.event_script.specs.Script.{end_by}
use Rattle.event_script.specs.Reader.{Reading, Moves}
use Rattle.stats_io.specs.declared.pulling.Pulled.{Pulled}
use Rattle.event_script.specs.declared.step.Step.{Step}
use Rattle.event_script.specs.declared.step.Step.TheVariants as step

-- the event that an answer gives, if it is one
abbrev pub events_answered : Result Step NoMemory → List Event
events_answered (Ok (step.Event e)) = e ∷ []
events_answered other = []

-- the end of the file that an answer tells, if it tells one
abbrev pub end_of : Result Step NoMemory → Option FileEnd
end_of (Ok (step.Event e)) = None
end_of (Ok step.End) = Some file.Whole
end_of (Ok (step.BadLine n)) = Some (file.BadLine n)
end_of (Ok (step.LineTooLong n)) = Some (file.LineTooLong n)
end_of (Ok step.TooBig) = Some file.TooBig
end_of (Ok step.TooMany) = Some file.TooMany
end_of (Ok step.ReadFault) = Some file.ReadFault
end_of (Err e) = None

-- where the answer is an end of the file, this holds of it
abbrev pub IfEnded : Result Step NoMemory → (FileEnd → Type 0) → Type 0
IfEnded answer fact = IfSome (end_of answer) fact

abbrev pub IfEvent : Result Step NoMemory → Type 0 → Type 0
IfEvent (Ok (step.Event e)) fact = fact
IfEvent other fact = Unit {0}

-- the answer is this end of the file
abbrev pub TellsEnd : Result Step NoMemory → FileEnd → Type 0
TellsEnd answer end = (events_answered answer ≡ []) × (end_of answer ≡ Some end)

-- a line ends the file
abbrev pub IsLineFault : FileEnd → Type 0
IsLineFault file.Whole = ⊥
IsLineFault file.TooBig = ⊥
IsLineFault file.ReadFault = ⊥
IsLineFault file.NotOpened = ⊥
IsLineFault other = Unit {0}

-- the end is that of the source, or a fault of a line
abbrev pub EndsBy : Pulled → FileEnd → Type 0
EndsBy stop file.Whole = end_by stop ≡ file.Whole
EndsBy stop file.TooBig = end_by stop ≡ file.TooBig
EndsBy stop file.ReadFault = end_by stop ≡ file.ReadFault
EndsBy stop file.NotOpened = ⊥
EndsBy stop other = Unit {0}

-- why the file ended so: the source has nothing left, or its count of faults rose
abbrev pub Explains : SourceState → ℕ → FileEnd → Type 0
Explains source first file.Whole = IsAtEnd source.left
Explains source first file.ReadFault = Rose first source.faults
Explains source first file.NotOpened = ⊥
Explains source first other = Unit {0}

-- the end is a fault of a line, or the source had stopped, and it is that of the source
abbrev pub StoppedBy : Option Pulled → FileEnd → Type 0
StoppedBy None end = IsLineFault end
StoppedBy (Some stop) end = EndsBy stop end

-- the reading has ended so, and for a cause
pub record HasEnded {S : Type 0} (state : S → SourceState) (now : Reading S) (end : FileEnd) : Type 0 where
  pub is : now.ended ≡ Some end
  pub by : StoppedBy now.stopped end
  pub explained : Explains (state now.source) now.first_faults end

-- a call that had no memory gave none
abbrev pub no_answer : Result Step NoMemory
no_answer = Err (record {})

-- The bytes that were taken stand before the next line or are pending, but the one that a file has too many; and few are
-- pending.
pub record HoldsTaken {S : Type 0} (now : Reading S) : Type 0 where
  pub all : now.offset + length now.pending ≤ now.taken
  pub but_one : now.taken ≤ now.offset + length now.pending + 1
  pub few : now.taken ≤ now.offset + MAX_HELD_BYTES

-- An answer of a reader: some bytes were taken, and what comes behind the answer is what was to come. An event is
-- lawful and has a line of its own, and an end has its cause. Where the source ended nothing of it is left. Events,
-- lines and bytes stay within their limits. Behind an event the bytes that were taken end less than a pull past its
-- line.
pub record IsAnswer {S : Type 0} (state : S → SourceState) (old new : Reading S)
    (answer : Result Step NoMemory) : Type 0 where
  pub got : List ℕ
  pub moves : Moves state old new got (events_answered answer)
  pub lawful : All IsLawful (events_answered answer)
  pub onward : IfEvent answer (old.number < new.number)
  pub ended : IfEnded answer (HasEnded state new)
  pub whole : new.stopped ≡ Some End → IsAtEnd (state new.source).left
  pub few : new.given ≤ MAX_EVENTS
  pub short : new.number ≤ MAX_FILE_BYTES + 1
  pub bound : new.taken ≤ MAX_FILE_BYTES + 1
  pub held : HoldsTaken new
  pub near : IfEvent answer (new.taken < new.offset + MAX_PULL_BYTES)

-- where the answer is a read fault, and the first one, the source's count of faults rose during the call
abbrev pub HasFaultCause : {S : Type 0} → (S → SourceState) → Reading S → Reading S → Result Step NoMemory → Type 0
HasFaultCause state old new answer = old.ended ≡ None → end_of answer ≡ Some file.ReadFault
    → Rose (state old.source).faults (state new.source).faults
