-- A text that is gathered in a buffer and pushed to a sink piece by piece. This project's own.
use Rattle.std.specs.Prelude.{◌≡◌, ℕ, List, ◌++◌}
use Rattle.stats_io.specs.States.{SinkState}
use Rattle.stats_io.specs.Push.{AppendsFront, WritesWhole}

-- since the first state of the sink this text was gathered: a front of it was written, and the rest is held
pub record IsGathered (first now : SinkState) (held text : List ℕ) : Type 0 where
  pub written : List ℕ
  pub pushed : WritesWhole first now written
  pub all : written ++ held ≡ text

-- a front of this text was written, and no push failed
pub record StopsWithin (before after : SinkState) (text : List ℕ) : Type 0 where
  pub front : AppendsFront before.written after.written text
  pub count : after.faults ≡ before.faults
