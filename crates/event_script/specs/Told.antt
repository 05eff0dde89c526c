-- Answers whose events are borrowed. This project's own.
use Rattle.std.specs.Prelude.{◌≡◌, Some, Result, Ok, Err}
use Rattle.stat_defs.specs.Borrowed.{event_of}
use Rattle.stat_defs.specs.declared.memory.NoMemory.{NoMemory}
use Rattle.stat_defs.specs.declared.reports.FileEnd.{FileEnd}
use Rattle.stats_io.specs.States.{SourceState}
use Rattle.event_script.specs.Reader.{Reading}
use Rattle.event_script.specs.Answer.{IsAnswer, TellsEnd, HasFaultCause, IfEnded, IsLineFault}
use Rattle.event_script.specs.declared.step.Step.{Step}
use Rattle.event_script.specs.declared.step.Step.TheVariants as step
use Rattle.event_script.specs.declared.step.StepRef.{StepRef}
use Rattle.event_script.specs.declared.step.StepRef.TheVariants as borrowed

-- the step that a borrowed one stands for
abbrev pub told : StepRef → Step
told (borrowed.Event e) = step.Event (event_of e)
told borrowed.End = step.End
told (borrowed.BadLine n) = step.BadLine n
told (borrowed.LineTooLong n) = step.LineTooLong n
told borrowed.TooBig = step.TooBig
told borrowed.TooMany = step.TooMany
told borrowed.ReadFault = step.ReadFault

abbrev pub answer_of : StepRef → Result Step NoMemory
answer_of s = Ok (told s)

abbrev pub told_in : Result StepRef NoMemory → Result Step NoMemory
told_in (Ok s) = answer_of s
told_in (Err e) = Err e

-- what the reader answered, where it is the new one once nothing is borrowed from it; and an end is answered again,
-- which changes nothing, and a read fault has its cause
pub record HasAnswered {S : Type 0} (state : S → SourceState) (old : Reading S) (result : Result StepRef NoMemory)
    (new : Reading S) : Type 0 where
  pub answer : IsAnswer state old new (told_in result)
  pub again : (end : FileEnd) → old.ended ≡ Some end → TellsEnd (told_in result) end × (new ≡ old)
  pub fault : HasFaultCause state old new (told_in result)

-- what a line gave: an answer, and no end but that of a line
pub record HasRead {S : Type 0} (state : S → SourceState) (old new : Reading S) (result : Result Step NoMemory) : Type 0 where
  pub answer : IsAnswer state old new result
  pub by_line : IfEnded result IsLineFault

-- the end that was found, as it is answered
pub record IsLastEnd {S : Type 0} (state : S → SourceState) (now : Reading S) (step : StepRef) : Type 0 where
  pub end : FileEnd
  pub is : now.ended ≡ Some end
  pub tells : TellsEnd (answer_of step) end
  pub answer : IsAnswer state now now (answer_of step)
