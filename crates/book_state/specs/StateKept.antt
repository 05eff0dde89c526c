-- What the fields of a stored state keep.
use Rattle.std.specs.Prelude.{length, map}
use Rattle.book_state.specs.declared.state.BookState.TheInside.{Inside}
use Rattle.book_state.specs.Log.{replay}
use Rattle.book_state.specs.Stored.{StateView, Stored, IsStored, drawing, seat_row}

-- the state is the replay of the entries that were applied
abbrev pub shown : Inside → StateView
shown b = record {
  tags = b.rules;
  state = replay (drawing b.rules) (length b.seats.items) b.past.items;
  released = b.released.items;
}

abbrev pub stored_in : Inside → Stored
stored_in b = record {
  scopes = b.scopes;
  metrics = b.metrics;
  released = b.released.items;
  seats = map seat_row b.seats.items;
}

abbrev pub Kept : Inside → Type 0
Kept b = IsStored (stored_in b) (shown b).state
