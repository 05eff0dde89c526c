-- How the threads of a run return (this project's own).
use Rattle.std.specs.Prelude.{List}
use Rattle.std.specs.List.{AllZip}
use Rattle.stats_io.specs.States.{SourceState}
use Rattle.store_parts.specs.declared.store.Store.{Store}
use Rattle.worker_run.specs.declared.given.Job.{Job}
use Rattle.worker_run.specs.declared.given.Worked.{Worked}
use Rattle.worker_run.specs.Working.{IsWorked}
use Rattle.run_files.specs.declared.returning.Returned.{Returned}
use Rattle.run_files.specs.declared.side_by_side.Sides.{Sides}
use Rattle.run_files.specs.Flushes.{AreFlushings}
use Rattle.run_files.specs.Readings.{AreReadings}
use Rattle.run_files.specs.Gathering.{AreOf}

-- All parties of the store have returned. Its flusher made the flushes and its reader the readings that were asked for,
-- and the worker of each job read its file and decided its events.
pub record AreBack {S : Type 0} (state : S → SourceState) (store : Store) (sides : Sides) (jobs : List (Job S))
    (done : Returned) : Type 0 where
  pub flushings : AreFlushings store sides.flushes done.flushings
  pub readings : AreReadings store sides.reads done.readings
  pub workers : List Worked
  pub each : AllZip (λ job worked. IsWorked state store job.number job.given worked) jobs workers
  pub gathered : AreOf workers done.gathered
