-- A source that was read to its end. This project's own.
use Rattle.std.specs.Prelude.{◌≡◌, ◌≢◌, ◌≤◌, ◌+◌, ℕ, List, length}
use Rattle.std.specs.Io.KnownBytes.{Consumes}
use Rattle.stat_defs.specs.Faults.{Rose}
use Rattle.stat_defs.specs.declared.events.Event.{Event}
use Rattle.stat_defs.specs.declared.reports.FileEnd.{FileEnd}
use Rattle.stat_defs.specs.declared.reports.FileEnd.TheVariants.{Whole, BadLine, LineTooLong, TooBig, TooMany}
use Rattle.stat_defs.specs.declared.reports.FileEnd.TheVariants.{ReadFault, NotOpened}
use Rattle.stat_defs.specs.declared.reports.WorkerEnd.{WorkerEnd}
use Rattle.stats_io.specs.States.{SourceState}
use Rattle.event_script.specs.FileEvents.{AreEventsOf}
use Rattle.event_script.specs.declared.limits.TheConstants.{MAX_EVENTS, MAX_FILE_BYTES}

-- the bytes that were taken are told where the source failed
abbrev pub taken_at : FileEnd → ℕ → ℕ
taken_at Whole taken = 0
taken_at (BadLine n) taken = 0
taken_at (LineTooLong n) taken = 0
taken_at TooBig taken = 0
taken_at TooMany taken = 0
taken_at ReadFault taken = taken
taken_at NotOpened taken = 0

-- how a file ended of which this number of bytes was taken, with the two counts of its source's faults
abbrev pub end_told : FileEnd → ℕ → ℕ → ℕ → WorkerEnd
end_told end taken before after =
    record { end = end; taken = taken_at end taken; faults_before = before; faults_after = after }

-- A source was read to its end, and gave these events. The end's two counts are those of this source and of a later
-- state of it, which has given up these bytes of what was left: one more than a file may have, at most.
pub record IsSourceRead {S : Type 0} (state : S → SourceState) (source : S) (events : List Event) (end : WorkerEnd)
    : Type 0 where
  pub is_run : AreEventsOf (state source).left end.end end.taken events
  pub few : length events ≤ MAX_EVENTS
  pub opened : end.end ≢ NotOpened
  pub last : S
  pub origin : (state last).origin ≡ (state source).origin
  pub given : List ℕ
  pub consumed : Consumes (state source).left (state last).left given
  pub few_bytes : length given ≤ MAX_FILE_BYTES + 1
  pub taken : end.taken ≡ taken_at end.end (length given)
  pub count_before : end.faults_before ≡ (state source).faults
  pub count_after : end.faults_after ≡ (state last).faults
  pub rose : end.end ≡ ReadFault → Rose end.faults_before end.faults_after
