-- What a push does, and what is written by many of them.
use Rattle.std.specs.Prelude.{◌≡◌, ℕ, ◌≤◌, Option, List, take}
use Rattle.std.specs.Io.KnownBytes.{Appends, Keeps}
use Rattle.stat_defs.specs.Faults.{Rose}
use Rattle.stats_io.specs.States.{SinkState}
use Rattle.stats_io.specs.declared.sink.Push.{Push}
use Rattle.stats_io.specs.declared.sink.Push.TheVariants.{Took, Failed}

-- at least one byte, and no more than there are
abbrev pub FitsPiece : Push → ℕ → Type 0
FitsPiece (Took k) room = (1 ≤ k) × (k ≤ room)
FitsPiece Failed room = Unit {0}

-- the first k bytes of the piece were appended; a failure writes nothing
abbrev pub Pushes : SinkState → SinkState → Push → List ℕ → Type 0
Pushes before after (Took k) piece = Appends before.written after.written (take k piece)
Pushes before after Failed piece = Keeps before.written after.written

abbrev pub IfTook : Push → (ℕ → Type 0) → Type 0
IfTook (Took k) fact = fact k
IfTook Failed fact = Unit {0}

-- some first bytes of these were appended
abbrev pub AppendsFront : Option (List ℕ) → Option (List ℕ) → List ℕ → Type 0
AppendsFront before after bytes = (n : ℕ) × Appends before after (take n bytes)

-- all of these bytes were written, and no push failed
pub record WritesWhole (before after : SinkState) (bytes : List ℕ) : Type 0 where
  pub appended : Appends before.written after.written bytes
  pub count : after.faults ≡ before.faults

-- a push failed, and a front of these bytes was written
pub record WritesFront (before after : SinkState) (bytes : List ℕ) : Type 0 where
  pub front : AppendsFront before.written after.written bytes
  pub rose : Rose before.faults after.faults
