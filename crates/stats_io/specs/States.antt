-- What contracts see of a source, a sink and a shelf. This project's own.
use Rattle.std.specs.Prelude.{◌≡◌, ◌≤◌, ℕ, Option, List}

-- a source: the bytes that are left, where it tells them, where its bytes come from, and how often a pull has failed
pub record SourceState : Type 0 where
  pub left : Option (List ℕ)
  pub origin : List ℕ
  pub faults : ℕ

-- a sink: the bytes that were written, where it tells them, and how often a push has failed
pub record SinkState : Type 0 where
  pub written : Option (List ℕ)
  pub faults : ℕ

-- a shelf: how often an opening has failed, and the name whose opening failed last
pub record ShelfState : Type 0 where
  pub faults : ℕ
  pub failed : List ℕ

-- a later state of a source: it has the same origin, and its count of faults did not fall
pub record IsLater (before after : SourceState) : Type 0 where
  pub origin : after.origin ≡ before.origin
  pub count : before.faults ≤ after.faults
