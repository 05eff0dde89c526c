-- What contracts see of readers, writers and the files of a folder. This project's own.
use Rattle.std.specs.Prelude.{ℕ, List, [], Option, None, Some, String, string_bytes}
use Rattle.std.specs.declared.alloc.Global.{Global}

-- a reader under a name, and how often a read has failed
pub record FileSourceState (F : Type 0) : Type 0 where
  pub reader : F
  pub name : List ℕ
  pub faults : ℕ

-- a writer, and how often a write has failed
pub record StdSinkState (W : Type 0) : Type 0 where
  pub writer : W
  pub faults : ℕ

abbrev pub last_name : Option (String Global) → List ℕ
last_name None = []
last_name (Some name) = string_bytes name
