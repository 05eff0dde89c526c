-- What a tally says as a book (this project's own).
use Rattle.std.specs.Prelude.{ℕ, Option, None, Some, List, [], ◌∷◌, map}
use Rattle.stat_defs.specs.declared.history.NameOp.{NameOp}
use Rattle.stat_defs.specs.declared.history.Entry.{Entry}
use Rattle.stat_defs.specs.declared.history.Call.TheVariants as call
use Rattle.stat_defs.specs.declared.history.Reply.TheVariants as reply
use Rattle.stat_defs.specs.Books.{BookHistory}
use Rattle.book_lock.specs.Locked.{blank_config}

-- an acknowledgement by the seat of this number
abbrev pub entry_of : ℕ → Entry
entry_of number = record { seat = number; call = call.Ack; reply = reply.Acked 0 }

-- a word is an entry
abbrev pub history_of : List ℕ → BookHistory
history_of words = record { config = blank_config; workers = 4; log = map entry_of words }

-- the changes of its list of names
abbrev pub changes_of : Option NameOp → List NameOp
changes_of None = []
changes_of (Some change) = change ∷ []
