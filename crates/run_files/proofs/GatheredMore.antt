-- What the workers did, with one worker more.
use Rattle.std.proofs.Common.{◌≡◌, ℕ, ◌≤◌, Ok, List, [], ◌∷◌, ◌++◌, refl, ap, sym, ◌∙◌, arith}
use Rattle.std.specs.declared.result.Result.{Result}
use Rattle.stat_defs.specs.declared.memory.NoMemory.{NoMemory}
use Rattle.worker_run.specs.declared.given.Worked.{Worked}
use Rattle.run_files.specs.declared.gathering.Gathered.{Gathered}
use Rattle.run_files.specs.Gathering.{HasRoom, Puts, AreGathered}
use Rattle.run_files.proofs.Places.{map_more}

pub fewer_room : (n m : ℕ) (all : Gathered) → m ≤ n → HasRoom n all → HasRoom m all
fewer_room n m all fewer room = record {
  verdicts = (let r = room.verdicts in omega (arith, r, fewer));
  ends = (let r = room.ends in omega (arith, r, fewer));
  ended = (let r = room.ended in omega (arith, r, fewer));
}

pub gathered_more : (results : List (Result Worked NoMemory)) (result : Result Worked NoMemory) (worked : Worked)
    (old new : Gathered) → result ≡ Ok worked → Puts worked old new → AreGathered results old
    → AreGathered (results ++ result ∷ []) new
gathered_more results result worked old new is puts all = record {
  workers = all.workers ++ worked ∷ [];
  came = map_more Ok all.workers (all.workers ++ worked ∷ []) worked results refl all.came
      ∙ ap (λ (r : Result Worked NoMemory). results ++ r ∷ []) (sym is);
  are = record {
    verdicts = map_more (λ (w : Worked). w.verdicts.items) all.workers (all.workers ++ worked ∷ []) worked
        old.verdicts.items refl all.are.verdicts ∙ sym puts.verdicts;
    ends = map_more (λ (w : Worked). w.end) all.workers (all.workers ++ worked ∷ []) worked
        old.ends.items refl all.are.ends ∙ sym puts.ends;
    ended = map_more (λ (w : Worked). w.ended) all.workers (all.workers ++ worked ∷ []) worked
        old.ended.items refl all.are.ended ∙ sym puts.ended;
  };
}
