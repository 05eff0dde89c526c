-- What a worker's loop knows of its recorder (this project's own).
use Rattle.std.specs.Prelude.{◌≡◌, ◌+◌, [], ◌∷◌, ◌++◌}
use Rattle.stat_defs.specs.declared.events.Event.{Event}
use Rattle.stat_defs.specs.declared.history.Verdict.{Verdict}
use Rattle.book_seat.specs.Following.{HasFollowed}
use Rattle.ledger.specs.Work.{events_in, verdicts_in}
use Rattle.recorder.specs.declared.working.Handled.{Handled}
use Rattle.recorder.specs.Calling.{PollsOnce, Applies}
use Rattle.recorder.specs.Knowing.{RecorderKnown}

-- the entries of its seat are those of its events
abbrev pub HasFollowedAll : RecorderKnown → Type 0
HasFollowedAll r = HasFollowed r.seat (events_in r.work) (verdicts_in r.work)

-- one poll, and then the event
pub record Handles (e : Event) (handled : Handled) (old new : RecorderKnown) : Type 0 where
  pub between : RecorderKnown
  pub polls : PollsOnce handled.polled old between
  pub applies : Applies e handled.verdict between new

-- one event more was given and decided, of the same store and cell
pub record WorksOn (e : Event) (v : Verdict) (old new : RecorderKnown) : Type 0 where
  pub of : new.of ≡ old.of
  pub place : new.place ≡ old.place
  pub cell : new.side.cell.cell ≡ old.side.cell.cell
  pub number : new.seat.number ≡ old.seat.number
  pub given : new.given ≡ old.given + 1
  pub work : new.work ≡ old.work ++ (e, v) ∷ []
