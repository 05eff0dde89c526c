-- What callers see of a lone worker. This project's own.
use Rattle.std.specs.Prelude.{◌≡◌, Bool, true, false, MatchBool, List, [], ◌∷◌, ◌++◌}
use Rattle.stat_defs.specs.Books.{BookHistory}
use Rattle.stat_defs.specs.declared.configs.Config.{Config}
use Rattle.stat_defs.specs.declared.events.Event.{Event}
use Rattle.stat_defs.specs.declared.history.Verdict.{Verdict}
use Rattle.book_state.specs.Follows.{FollowsSoFar, Follows}
use Rattle.stat_book.specs.Calls.{rules_of, new_book}
use Rattle.plain_store.specs.Entries.{Adds, IsLeftOf, Applies}

-- its book; the events that it decided, with their verdicts; whether its seat has ended; and whether each entry of its
-- seat is one of these events, since no event was cut short by want of memory
pub record WorkerHistory : Type 0 where
  pub book : BookHistory
  pub events : List Event
  pub verdicts : List Verdict
  pub ended : Bool
  pub whole : Bool

abbrev pub new_worker : Config → WorkerHistory
new_worker config = record { book = new_book config 1; events = []; verdicts = []; ended = false; whole = true }

-- the entries of its seat are those of its events, and one End behind them where it has ended
abbrev pub IsFollowed : WorkerHistory → Type 0
IsFollowed worker = MatchBool worker.ended
    (Follows (rules_of worker.book) 1 1 worker.events worker.verdicts worker.book.log)
    (FollowsSoFar (rules_of worker.book) 1 1 worker.events worker.verdicts worker.book.log)

-- one event more was decided: the log grew by what it makes
pub record Decides (old : WorkerHistory) (e : Event) (v : Verdict) (new : WorkerHistory) : Type 0 where
  pub added : Applies old.book e v new.book
  pub decided : new ≡ record old { book = new.book; events = old.events ++ e ∷ []; verdicts = old.verdicts ++ v ∷ [] }

-- an event was cut short by want of memory: behind the log as it was may stand what is left of the event, and nothing
-- else of the worker has changed
pub record IsCutShort (old : WorkerHistory) (e : Event) (new : WorkerHistory) : Type 0 where
  pub left : Adds old.book (IsLeftOf e) new.book
  pub cut : new ≡ record old { book = new.book; whole = false }
