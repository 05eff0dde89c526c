-- The least worker that is late (this project's own).
use Rattle.std.specs.Prelude.{◌≡◌, ℕ, suc, ◌+◌, List, [], ◌∷◌, ◌++◌, length, Option, Some, None}
use Rattle.std.specs.List.{AllByRecursion}
use Rattle.flush_cells.specs.Cells.{late_in}
use Rattle.flush_cells.specs.declared.passing.Pass.{Pass}
use Rattle.flush_cells.specs.declared.passing.Pass.TheVariants.{Done, Late}
use Rattle.flush_cells.specs.declared.tokens.FlushCell.{FlushCell}

-- this worker, where it is late, and else what is told of those behind it
abbrev pub late_or : Option ℕ → ℕ → Pass → Pass
late_or (Some word) worker rest = Late worker word
late_or None worker rest = rest

-- the least worker from this one on that is late
abbrev pub pass_from : ℕ → List FlushCell → Pass
pass_from worker [] = Done
pass_from worker (c ∷ cells) = late_or (late_in c) worker (pass_from (suc worker) cells)

-- what is told of the workers before, and else this one, where it is late
abbrev pub or_late : Pass → ℕ → Option ℕ → Pass
or_late Done worker (Some word) = Late worker word
or_late Done worker None = Done
or_late (Late w word) worker late = Late w word

abbrev pub IsOnTime : FlushCell → Type 0
IsOnTime c = late_in c ≡ None

-- of the tokens of the workers from `first` on, this worker's is the least that is late, with this word
pub record LateAt (first : ℕ) (cells : List FlushCell) (worker word : ℕ) : Type 0 where
  pub before : List FlushCell
  pub cell : FlushCell
  pub behind : List FlushCell
  pub whole : cells ≡ before ++ cell ∷ behind
  pub at : worker ≡ first + length before
  pub late : late_in cell ≡ Some word
  pub on_time : AllByRecursion IsOnTime before

pub record TellsLeast : Type 0 where
  pub late : (cells : List FlushCell) (worker word : ℕ) → pass_from 1 cells ≡ Late worker word → LateAt 1 cells worker word
  pub done : (cells : List FlushCell) → pass_from 1 cells ≡ Done → AllByRecursion IsOnTime cells
