-- What a thread of the benchmark knows of the parties of a store (this project's own).
use Rattle.std.specs.Prelude.{◌≡◌, ℕ, ◌≤◌, Bool, true, None, All}
use Rattle.store_parts.specs.declared.store.Store.{Store}
use Rattle.store_parts.specs.Ids.{ids_of}
use Rattle.recorder.specs.Knowing.{RecorderKnown, HasItsCell}
use Rattle.admin_side.specs.Reader.{ReaderKnown, IsReaderOf}
use Rattle.flusher.specs.Flusher.{FlusherKnown, IsFlusherOf}
use Rattle.store_opening.specs.declared.opening.Opened.{Opened}

-- a recorder of the store that was given no more events than these
pub record IsAtHand (store : Store) (given : ℕ) (r : RecorderKnown) : Type 0 where
  pub of : r.of ≡ ids_of store
  pub cell : HasItsCell store r
  pub few : r.given ≤ given

-- the flusher of the store, which has begun no round where it is idle
pub record IsIdle (store : Store) (idle : Bool) (k : FlusherKnown) : Type 0 where
  pub of : IsFlusherOf store k
  pub between : idle ≡ true → k.round ≡ None

-- the reader of the store
abbrev pub IsReader : Store → ReaderKnown → Type 0
IsReader store k = IsReaderOf store.book store.counters store.gauges k

-- a store as it is opened: its recorders were given nothing, and its flusher and its reader have done nothing
pub record IsOpened (opened : Opened) : Type 0 where
  pub recorders : All (IsAtHand opened.store 0) opened.recorders.items
  pub flusher : IsIdle opened.store true opened.flusher
  pub reader : IsReader opened.store opened.admin
