-- The entries of a worker's seat are those of its events (this project's own).
use Rattle.std.specs.Prelude.{List, [], ◌∷◌, ◌++◌}
use Rattle.stat_defs.specs.declared.events.Event.{Event}
use Rattle.stat_defs.specs.declared.history.Entry.{Entry}
use Rattle.stat_defs.specs.declared.history.Verdict.{Verdict}
use Rattle.stat_defs.specs.Books.{BookHistory}
use Rattle.book_state.specs.Follows.{FollowsSoFar, Follows}
use Rattle.stat_book.specs.Calls.{rules_of}
use Rattle.seat_history.specs.declared.known.LogKnown.{LogKnown}
use Rattle.seat_history.specs.History.{SeatHistory, known_history}
use Rattle.book_access.specs.Calling.{WorksUnder}
use Rattle.book_seat.specs.Deciding.{AddsEvent}
use Rattle.book_seat.specs.Polling.{AcksIfDue, Ends}
use Rattle.book_seat.specs.SeatKept.{IsNewSeat}

-- in the log that the seat knows
abbrev pub HasFollowed : LogKnown → List Event → List Verdict → Type 0
HasFollowed k events verdicts = FollowsSoFar (rules_of (known_history k)) k.workers k.number events verdicts k.known

pub record SeatFollows : Type 0 where
  -- a new seat works, and has followed no event
  pub begins : (k : LogKnown) → IsNewSeat k → WorksUnder k × HasFollowed k [] []
  -- a poll and an event behind it
  pub event : (k m k' : LogKnown) (events : List Event) (verdicts : List Verdict) (e : Event) (v : Verdict)
      → HasFollowed k events verdicts → AcksIfDue k m → AddsEvent m e v k'
      → HasFollowed k' (events ++ e ∷ []) (verdicts ++ v ∷ [])
  -- the end of the seat, and the last log, in which entries of others may stand behind it
  pub ended : (k k' : LogKnown) (events : List Event) (verdicts : List Verdict) (first : BookHistory)
      (log : List Entry) → HasFollowed k events verdicts → Ends k k' → SeatHistory first log k'
      → Follows (rules_of (known_history k')) k'.workers k'.number events verdicts log
