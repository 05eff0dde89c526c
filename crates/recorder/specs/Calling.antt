-- What the calls of a recorder leave (this project's own).
use Rattle.std.specs.Prelude.{◌≡◌, ◌+◌, Bool, true, Option, None, Some, IfSome}
use Rattle.stat_defs.specs.declared.events.Event.{Event}
use Rattle.stat_defs.specs.declared.history.Verdict.{Verdict}
use Rattle.book_seat.specs.Growing.{Grows}
use Rattle.book_seat.specs.Deciding.{DecidesEvent, IsCutOff, hit_in}
use Rattle.book_seat.specs.Polling.{Polls, PollsInVain}
use Rattle.half_side.specs.Halves.{LooksAndTurns}
use Rattle.run_ledger.specs.Grows.{Decides, Turns}
use Rattle.recorder.specs.declared.polling.Polled.{Polled}
use Rattle.recorder.specs.Acting.{active_after, IsSure}
use Rattle.recorder.specs.Knowing.{RecorderKnown, told_by}

-- One event more was decided: it made its one add, gauge step or recording where it was accepted, and nothing else.
pub record Decided (told : Event × Verdict) (old new : RecorderKnown) : Type 0 where
  pub decides : Decides (told_by old) told (told_by new)
  pub active : new.side.active ≡ active_after told old.side.active
  pub rest : new ≡ record old {
    work = new.work;
    seat = new.seat;
    counts = record old.counts { steps = new.counts.steps };
    gauges = record old.gauges { steps = new.gauges.steps };
    side = record old.side { active = new.side.active };
    given = old.given + 1;
  }

-- a held verdict decided the event, and the lock's words were left alone; nothing was done where none is held
abbrev pub Hits : Event → Option Verdict → RecorderKnown → RecorderKnown → Type 0
Hits e None old new = new ≡ old
Hits e (Some v) old new = Decided (e, v) old new × (new.seat ≡ old.seat)

-- a hit takes no memory
abbrev pub IsSureHit : RecorderKnown → Event → Type 0
IsSureHit r e = IfSome (hit_in r.seat e) (λ v. IsSure e v r.side.active)

-- the event was decided by the book, or by the held verdict, which leaves the lock's words alone
pub record Applies (e : Event) (v : Verdict) (old new : RecorderKnown) : Type 0 where
  pub event : DecidesEvent e v old.seat new.seat
  pub alone : IfSome (hit_in old.seat e) (λ held. (v ≡ held) × (new.seat ≡ old.seat))
  pub decided : Decided (e, v) old new

-- An event was cut short by want of memory: the log may have the find of its key, and no step on a word and no recording
-- was made.
pub record IsCutShort (e : Event) (old new : RecorderKnown) : Type 0 where
  pub left : Grows old.seat (IsCutOff e) new.seat
  pub rest : new ≡ record old { seat = new.seat; given = old.given + 1 }

-- One poll: the half was turned exactly where it was asked for, and an acknowledgement was made exactly where one was
-- due.
pub record PollsOnce (polled : Polled) (old new : RecorderKnown) : Type 0 where
  pub half : LooksAndTurns polled.turned old.side new.side
  pub turns : polled.turned ≡ true → Turns (told_by old) (told_by new)
  pub log : Polls polled.acked old.seat new.seat
  pub rest : new ≡ record old { seat = new.seat; side = new.side }

-- the acknowledgement had no memory; the half may have been turned
pub record PollIsCutShort (old new : RecorderKnown) : Type 0 where
  pub turned : Bool
  pub half : LooksAndTurns turned old.side new.side
  pub log : PollsInVain old.seat new.seat
  pub rest : new ≡ record old { seat = new.seat; side = new.side }
