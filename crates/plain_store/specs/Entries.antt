-- What a lone worker, seat 1, adds to its book's log. This project's own.
use Rattle.std.specs.Prelude.{◌≡◌, ◌⊎◌, ◌==◌, true, List, ◌∷◌, ◌++◌}
use Rattle.std.specs.List.{list_all}
use Rattle.stat_defs.specs.Books.{BookHistory}
use Rattle.stat_defs.specs.declared.events.Event.{Event}
use Rattle.stat_defs.specs.declared.history.Call.TheVariants as call
use Rattle.stat_defs.specs.declared.history.Entry.{Entry}
use Rattle.stat_defs.specs.declared.history.Verdict.{Verdict}
use Rattle.book_state.specs.Follows.{Own, own, MakesAcked}
use Rattle.stat_book.specs.Calls.{rules_of, state_of}
use Rattle.book_seat.specs.Deciding.{IsCutOff}

-- entries of the worker were added, and they are such as this asks
pub record Adds (old : BookHistory) (Asks : List Own → Type 0) (new : BookHistory) : Type 0 where
  pub more : List Entry
  pub logged : new ≡ record old { log = old.log ++ more }
  pub mine : list_all (λ entry. entry.seat == 1) more ≡ true
  pub asked : Asks (own (rules_of old) 1 (state_of old) more)

-- what an event with this verdict makes, an acknowledgement first where one is due
abbrev pub Applies : BookHistory → Event → Verdict → BookHistory → Type 0
Applies old e v new = Adds old (MakesAcked 1 (state_of old) e v) new

-- what want of memory may leave of an event: an acknowledgement, and behind it the find of the event's key
abbrev pub IsLeftOf : Event → List Own → Type 0
IsLeftOf e made = IsCutOff e made
    ⊎ ((o : Own) × (rest : List Own) × (made ≡ o ∷ rest) × (o.call ≡ call.Ack) × IsCutOff e rest)
