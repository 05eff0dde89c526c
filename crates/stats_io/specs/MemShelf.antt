-- What contracts see of a shelf in memory. This project's own.
use Rattle.std.specs.Prelude.{◌≡◌, ◌<◌, ◌≤◌, ℕ, List, [], ◌∷◌, Vec, Option, None, Some, Result, Ok, Err, nat_eq, if◌then◌else◌}
use Rattle.std.specs.Prelude.{string_bytes, length, slice_index_or, map}
use Rattle.std.specs.Option.{option_map}
use Rattle.std.specs.Cmp.Lexicographic.{pointwise}
use Rattle.std.specs.declared.alloc.Global.{Global}
use Rattle.stats_io.specs.States.{ShelfState}
use Rattle.stats_io.specs.MemSource.{MemSourceState, counted}
use Rattle.stats_io.specs.declared.shelf.OpenFault.{OpenFault}
use Rattle.stats_io.specs.declared.shelf.OpenFault.TheVariants as fault
use Rattle.stats_io.specs.declared.file.MemFile.{MemFile}

-- a file: its name, its bytes, and how the sources that are opened on it behave
pub record MemFileState : Type 0 where
  pub name : List ℕ
  pub bytes : List ℕ
  pub piece : ℕ
  pub fails : List ℕ

-- its files, which openings fail, how many were made and failed, and the name whose opening failed last
pub record MemShelfState : Type 0 where
  pub files : List MemFileState
  pub fails : List ℕ
  pub calls : ℕ
  pub faults : ℕ
  pub failed : List ℕ

abbrev pub as_shelf : MemShelfState → ShelfState
as_shelf s = record { faults = s.faults; failed = s.failed }

-- the first file of that name
abbrev pub file_named : List MemFileState → List ℕ → Option MemFileState
file_named [] name = None
file_named (f ∷ fs) name = if pointwise nat_eq f.name name then Some f else file_named fs name

-- the bytes of the first file of that name
abbrev pub held_by : List MemFileState → List ℕ → Option (List ℕ)
held_by files name = option_map (λ f. f.bytes) (file_named files name)

-- a source that was opened on that file under that name, and has not been pulled yet
abbrev pub IsSourceOf : List ℕ → Option MemFileState → MemSourceState → Type 0
IsSourceOf name None source = ⊥
IsSourceOf name (Some f) source =
    source ≡ record { origin = name; left = f.bytes; piece = f.piece; fails = f.fails; calls = 0; faults = 0 }

-- an opening is counted; a failed one is counted as failed too, with its name; one without memory changes nothing
abbrev pub opened : {S : Type 0} → List ℕ → Result S OpenFault → MemShelfState → MemShelfState
opened name (Ok _) s = record s { calls = counted s.calls }
opened name (Err fault.Failed) s = record s { calls = counted s.calls; faults = counted s.faults; failed = name }
opened name (Err fault.NoMemory) s = s

-- a file as the code has it
abbrev pub mem_file : MemFile → MemFileState
mem_file f = record { name = string_bytes f.name; bytes = f.bytes.items; piece = f.piece; fails = f.fails.items }

abbrev pub HasPiece : MemFile → Type 0
HasPiece f = 1 ≤ f.piece

-- the file at that place is the first of that name
pub record IsFirstNamed (files : List MemFile) (place : ℕ) (name : List ℕ) : Type 0 where
  pub within : place < length files
  pub first : (any : MemFile) → file_named (map mem_file files) name ≡ Some (mem_file (slice_index_or files place any))

abbrev pub last_failed : Option (Vec ℕ Global) → List ℕ
last_failed None = []
last_failed (Some name) = name.items
