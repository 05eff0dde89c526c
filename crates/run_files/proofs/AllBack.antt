-- All parties of a run are back.
use Rattle.std.proofs.Common.{◌≡◌, Ok, Err, IfOk, List, [], ◌∷◌, map, sym, subst}
use Rattle.std.specs.Result.{IsOkAnd}
use Rattle.std.specs.List.{AllZip}
use Rattle.std.specs.declared.result.Result.{Result}
use Rattle.stat_defs.specs.declared.memory.NoMemory.{NoMemory}
use Rattle.stats_io.specs.States.{SourceState}
use Rattle.store_parts.specs.declared.store.Store.{Store}
use Rattle.worker_run.specs.declared.given.Job.{Job}
use Rattle.worker_run.specs.declared.given.Worked.{Worked}
use Rattle.worker_run.specs.Working.{IsWorked}
use Rattle.run_files.specs.declared.flushes.Flushings.{Flushings}
use Rattle.run_files.specs.declared.readings.Readings.{Readings}
use Rattle.run_files.specs.declared.returning.Returned.{Returned}
use Rattle.run_files.specs.declared.side_by_side.Sides.{Sides}
use Rattle.run_files.specs.Flushes.{AreFlushings}
use Rattle.run_files.specs.Readings.{AreReadings}
use Rattle.run_files.specs.Gathering.{AreGathered}
use Rattle.run_files.specs.Returning.{AreBack}

-- what holds of results that all came holds of what came
came_all : {X Y : Type 0} (P : X → Y → Type 0) (xs : List X) (ys : List Y)
    → AllZip (λ x (r : Result Y NoMemory). IfOk r (P x)) xs (map Ok ys) → AllZip P xs ys
came_all P [] [] all = tt
came_all P [] (y ∷ ys) all = absurd all
came_all P (x ∷ xs) [] all = absurd all
came_all P (x ∷ xs) (y ∷ ys) all = (all.0, came_all P xs ys all.1)

both_ok : {X E : Type 0} (P Q : X → Type 0) (r : Result X E) → IfOk r P → IsOkAnd r Q → (x : X) × (P x × Q x)
both_ok P Q (Ok x) p q = (x, (p, q))
both_ok P Q (Err e) p q = absurd q

module _ {S V : Type 0} (items : V → List (Result Worked NoMemory)) (state : S → SourceState) (store : Store)
    (sides : Sides) (jobs : List (Job S)) (flushings : Result Flushings NoMemory) (readings : Result Readings NoMemory)
    (results : Result V NoMemory) (flushed : IfOk flushings (AreFlushings store sides.flushes))
    (read : IfOk readings (AreReadings store sides.reads))
    (worked : IfOk results (λ list.
    AllZip (λ job done. IfOk done (IsWorked state store job.number job.given)) jobs (items list))) where
  pub all_back : (result : Result Returned NoMemory) → IfOk result (λ done. flushings ≡ Ok done.flushings)
      → IfOk result (λ done. readings ≡ Ok done.readings)
      → IfOk result (λ done. IsOkAnd results (λ list. AreGathered (items list) done.gathered))
      → IfOk result (AreBack state store sides jobs)
  all_back (Err e) a b c = tt
  all_back (Ok done) a b c =
      let both = both_ok
      (λ list. AllZip (λ job done. IfOk done (IsWorked state store job.number job.given)) jobs (items list))
      (λ list. AreGathered (items list) done.gathered) results worked c in
      let all = both.1.1 in record {
        flushings = subst (λ (r : Result Flushings NoMemory). IfOk r (AreFlushings store sides.flushes)) a flushed;
        readings = subst (λ (r : Result Readings NoMemory). IfOk r (AreReadings store sides.reads)) b read;
        workers = all.workers;
        each = came_all (λ job done. IsWorked state store job.number job.given done) jobs all.workers
            (subst (λ (rs : List (Result Worked NoMemory)).
            AllZip (λ job done. IfOk done (IsWorked state store job.number job.given)) jobs rs) (sym all.came)
            both.1.0);
        gathered = all.are;
      }
