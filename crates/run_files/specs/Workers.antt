-- The workers of a run (this project's own).
use Rattle.store_parts.specs.declared.store.Store.{Store}
use Rattle.recorder.specs.Tied.{IsNewWorker}
use Rattle.worker_run.specs.declared.given.Job.{Job}

-- its recorder is that of the store's worker of its number, which was given no event yet
abbrev pub IsReady : {S : Type 0} → Store → Job S → Type 0
IsReady store job = IsNewWorker store job.number job.recorder
