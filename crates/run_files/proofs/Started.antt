-- A run that was started.
use Rattle.std.proofs.Common.{◌≡◌, ℕ, suc, List, [], ◌∷◌, map, All, sym, ap, subst}
use Rattle.std.specs.List.{AllByRecursion}
use Rattle.std.proofs.lemmas.List.Elements.{All-from_recursion}
use Rattle.ledger.specs.Lists.{EachNumbered}
use Rattle.run_ledger.specs.Told.{FlushTold}
use Rattle.store_parts.specs.declared.store.Store.{Store}
use Rattle.recorder.specs.Knowing.{RecorderKnown}
use Rattle.recorder.specs.Tied.{IsNewWorker}
use Rattle.admin_side.specs.Reader.{NamedRead, ReaderKnown}
use Rattle.flusher.specs.Flusher.{FlusherKnown}
use Rattle.store_opening.specs.Opening.{IsNewFlusher, IsNewReader}
use Rattle.worker_run.specs.declared.given.Job.{Job}
use Rattle.run_files.specs.Flushes.{HasFlushed}
use Rattle.run_files.specs.Readings.{HasRead}
use Rattle.run_files.specs.Workers.{IsReady}

module _ {S : Type 0} (store : Store) where
  ready_by : (n : ℕ) (jobs : List (Job S)) → EachNumbered (IsNewWorker store) n (map (λ job. job.recorder) jobs)
      → EachNumbered (λ number job. job.number ≡ number) n jobs → AllByRecursion (IsReady store) jobs
  ready_by n [] new numbers = tt
  ready_by n (job ∷ jobs) new numbers = (
    subst (λ (k : ℕ). IsNewWorker store k job.recorder) (sym numbers.0) new.0,
    ready_by (suc n) jobs new.1 numbers.1,
  )

  -- the jobs of new recorders may be started
  pub all_ready : (recorders : List RecorderKnown) (jobs : List (Job S)) → EachNumbered (IsNewWorker store) 1 recorders
      → map (λ job. job.recorder) jobs ≡ recorders → EachNumbered (λ number job. job.number ≡ number) 1 jobs
      → All (IsReady store) jobs
  all_ready recorders jobs new are numbers =
      All-from_recursion (IsReady store) jobs
      (ready_by 1 jobs
      (subst (λ (rs : List RecorderKnown). EachNumbered (IsNewWorker store) 1 rs) (sym are) new) numbers)

-- a new flusher and a new reader have done nothing yet
pub none_flushed : (store : Store) (k : FlusherKnown) → IsNewFlusher store k → HasFlushed store [] k
none_flushed store k new = record {
  of = new.of;
  shown = ap (λ (l : List FlushTold). map (λ (flush : FlushTold). flush.shown) l) (sym new.flushes);
  between = new.round;
}

pub none_read : (store : Store) (n : ℕ) (k : ReaderKnown) → IsNewReader store n k → HasRead store [] k
none_read store n k new = record {
  of = new.of;
  shown = ap (λ (l : List NamedRead). map (λ (read : NamedRead). read.shown) l) (sym new.reads);
}
