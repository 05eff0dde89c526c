-- A reader that goes on to its next line. This project's own.
use Rattle.std.specs.Prelude.{◌≡◌, ◌≤◌, ◌+◌, ◌-◌, ℕ, Option, Some, None}
use Rattle.stat_defs.specs.Faults.{Rose}
use Rattle.stat_defs.specs.declared.reports.FileEnd.TheVariants as file
use Rattle.stats_io.specs.States.{SourceState}
use Rattle.event_script.specs.declared.limits.TheConstants.{MAX_FILE_BYTES}
use Rattle.event_script.specs.Reader.{Reading}
use Rattle.event_script.specs.Answer.{IsAnswer, no_answer}

-- nothing was answered, and where the file ended by a read fault, the source's count of faults rose
pub record GoesOn {S : Type 0} (state : S → SourceState) (old new : Reading S) : Type 0 where
  pub answer : IsAnswer state old new no_answer
  pub number : old.number ≤ new.number
  pub fault : old.ended ≡ None → new.ended ≡ Some file.ReadFault → Rose (state old.source).faults (state new.source).faults

-- lines were passed over: the source is as it was
pub record PassesOn {S : Type 0} (state : S → SourceState) (old new : Reading S) : Type 0 where
  pub goes : GoesOn state old new
  pub source : new.source ≡ old.source
  pub taken : new.taken ≡ old.taken
  pub stopped : new.stopped ≡ old.stopped
  pub ended : new.ended ≡ old.ended

abbrev one_where_none : {X : Type 0} → Option X → ℕ
one_where_none None = 1
one_where_none (Some x) = 0

-- how often a reader can go on at most
abbrev pub turns_left : {S : Type 0} → Reading S → ℕ
turns_left r = MAX_FILE_BYTES + 1 - r.taken + (one_where_none r.stopped + one_where_none r.ended)
