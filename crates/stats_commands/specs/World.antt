-- What a call is handed, and how contracts see it. This project's own.
use Rattle.std.specs.Prelude.{ℕ, Option, List}
use Rattle.stats_io.specs.States.{SourceState, SinkState, ShelfState}
use Rattle.tag_rules.specs.Making.{Memory}

-- a maker of patterns, a shelf and two sinks, as they stand before or after a call
pub record World (K F O E : Type 0) : Type 0 where
  pub maker : K
  pub shelf : F
  pub out : O
  pub err : E

abbrev pub world : {K F O E : Type 0} → K → F → O → E → World K F O E
world maker shelf out err = record { maker = maker; shelf = shelf; out = out; err = err }

-- what contracts see of each: what the maker remembers, what the shelf's names hold, and the states
pub record Sight (K F S O E : Type 0) : Type 0 where
  pub maker : K → Memory
  pub holds : F → List ℕ → Option (List ℕ)
  pub shelf : F → ShelfState
  pub source : S → SourceState
  pub out : O → SinkState
  pub err : E → SinkState

abbrev pub sight : {K F S O E : Type 0} → (K → Memory) → (F → List ℕ → Option (List ℕ)) → (F → ShelfState)
    → (S → SourceState)
    → (O → SinkState) → (E → SinkState) → Sight K F S O E
sight maker holds shelf source out err =
    record { maker = maker; holds = holds; shelf = shelf; source = source; out = out; err = err }
