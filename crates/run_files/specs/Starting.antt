-- The start of a run (this project's own).
use Rattle.std.specs.Prelude.{◌≡◌, List, [], length, map, All}
use Rattle.stat_defs.specs.declared.configs.Config.{Config}
use Rattle.stat_book.specs.Calls.{new_book}
use Rattle.locked_book.specs.Sharing.{first_of}
use Rattle.ledger.specs.Lists.{EachNumbered}
use Rattle.worker_run.specs.declared.given.Given.{Given}
use Rattle.run_files.specs.declared.starting.Started.{Started}
use Rattle.run_files.specs.Flushes.{HasFlushed}
use Rattle.run_files.specs.Readings.{HasRead}
use Rattle.run_files.specs.Workers.{IsReady}

-- The store has a new book of the configuration with a worker for each file, and its flusher and its reader have done
-- nothing yet. The jobs have the files, in order; their numbers are those of the workers, from 1.
pub record IsStarted {S : Type 0} (config : Config) (files : List (Given S)) (started : Started S) : Type 0 where
  pub book : first_of started.store.book ≡ new_book config (length files)
  pub flusher : HasFlushed started.store [] started.sides.flusher
  pub reader : HasRead started.store [] started.sides.admin
  pub rounds : (started.sides.flushes ≡ config.flushes) × (started.sides.reads ≡ config.reads)
  pub ready : All (IsReady started.store) started.jobs.items
  pub given : map (λ job. job.given) started.jobs.items ≡ files
  pub numbers : EachNumbered (λ number job. job.number ≡ number) 1 started.jobs.items
