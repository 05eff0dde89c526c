-- The replay of a log through the stored state of a book. This project's own.
use Rattle.std.specs.Prelude.{ℕ, List, [], ◌∷◌, fold}
use Rattle.stat_defs.specs.declared.configs.TagSpec.{TagSpec}
use Rattle.stat_defs.specs.declared.history.Entry.{Entry}
use Rattle.book_state.specs.Log.{empty}
use Rattle.book_state.specs.Stored.{StateView, IsNext, after_entry}

-- each entry is a step from the state that the entries before it leave
abbrev pub AreNext : StateView → List Entry → Type 0
AreNext state [] = Unit {0}
AreNext state (entry ∷ entries) = IsNext state entry × AreNext (after_entry state entry) entries

-- before the first entry
abbrev pub first_state : List TagSpec → ℕ → StateView
first_state tags workers = record { tags = tags; state = empty workers; released = [] }

-- after these entries of a log
abbrev pub state_after : List TagSpec → ℕ → List Entry → StateView
state_after tags workers entries = fold after_entry (first_state tags workers) entries
