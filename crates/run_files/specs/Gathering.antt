-- What the workers of a run did, taken together (this project's own).
use Rattle.std.specs.Prelude.{◌≡◌, ℕ, ◌+◌, ◌≤◌, Ok, List, [], ◌∷◌, ◌++◌, length, map, vec_capacity}
use Rattle.std.specs.declared.result.Result.{Result}
use Rattle.stat_defs.specs.declared.memory.NoMemory.{NoMemory}
use Rattle.worker_run.specs.declared.given.Worked.{Worked}
use Rattle.run_files.specs.declared.gathering.Gathered.{Gathered}

-- there is room for so many workers more
pub record HasRoom (count : ℕ) (all : Gathered) : Type 0 where
  pub verdicts : length all.verdicts.items + count ≤ vec_capacity all.verdicts
  pub ends : length all.ends.items + count ≤ vec_capacity all.ends
  pub ended : length all.ended.items + count ≤ vec_capacity all.ended

-- what one worker did stands behind all before
pub record Puts (worked : Worked) (old new : Gathered) : Type 0 where
  pub verdicts : new.verdicts.items ≡ old.verdicts.items ++ worked.verdicts.items ∷ []
  pub ends : new.ends.items ≡ old.ends.items ++ worked.end ∷ []
  pub ended : new.ended.items ≡ old.ended.items ++ worked.ended ∷ []

-- what these workers did, in their order
pub record AreOf (workers : List Worked) (all : Gathered) : Type 0 where
  pub verdicts : map (λ worked. worked.verdicts.items) workers ≡ all.verdicts.items
  pub ends : map (λ worked. worked.end) workers ≡ all.ends.items
  pub ended : map (λ worked. worked.ended) workers ≡ all.ended.items

-- no worker wanted memory, and this is what they did
pub record AreGathered (results : List (Result Worked NoMemory)) (all : Gathered) : Type 0 where
  pub workers : List Worked
  pub came : map Ok workers ≡ results
  pub are : AreOf workers all
