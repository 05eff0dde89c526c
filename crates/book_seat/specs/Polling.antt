-- What a poll of the releases makes, and the end of a seat (this project's own).
use Rattle.std.specs.Prelude.{◌≡◌, ◌≤◌, ◌⊎◌, ℕ, ◌<◌, Bool, MatchBool, [], ◌∷◌}
use Rattle.stat_defs.specs.Books.{BookHistory}
use Rattle.stat_defs.specs.declared.history.Call.TheVariants as call
use Rattle.stat_defs.specs.declared.history.Reply.TheVariants as reply
use Rattle.book_state.specs.Follows.{Own, tag_of}
use Rattle.stat_book.specs.Calls.{Logged}
use Rattle.seat_history.specs.declared.known.LogKnown.{LogKnown}
use Rattle.seat_history.specs.History.{known_history, loaded}
use Rattle.book_access.specs.Calling.{known_state, Calls}
use Rattle.book_access.specs.Making.{LogsCall}
use Rattle.book_seat.specs.Growing.{Grows, MakesNothing, StaysAtWork}

-- how many releases the seat has acknowledged, by the log that it knows
abbrev pub tag_in : LogKnown → ℕ
tag_in k = tag_of (known_state k) k.number

-- an acknowledgement was logged
abbrev pub LogsAck : ℕ → BookHistory → BookHistory → Type 0
LogsAck seat old new = (tag : ℕ) × Logged old seat call.Ack (reply.Acked tag) new

abbrev pub Acknowledges : LogKnown → LogKnown → Type 0
Acknowledges k k' = Calls LogsAck k k'

-- The acknowledgement that stands before an event where one is due. None was due, and the log stays; or the seat's one
-- entry is an Ack, behind which it knows the log.
abbrev pub AcksIfDue : LogKnown → LogKnown → Type 0
AcksIfDue k k' =
    (((known_state k).releases ≤ tag_in k) × Grows k MakesNothing k' × (known_history k' ≡ known_history k))
    ⊎ Grows k (λ made. (o : Own) × (made ≡ o ∷ []) × (o.call ≡ call.Ack) × (o.after ≡ known_state k')) k'

-- The number of releases was loaded once. Where it is above what the seat has acknowledged, all releases are
-- acknowledged by one call, and this is told; else the book is left alone.
pub record Polls (acked : Bool) (k k' : LogKnown) : Type 0 where
  pub releases : ℕ
  pub rises : k.seen ≤ releases
  pub makes : MatchBool acked ((tag_in k < releases) × Acknowledges (loaded releases k) k')
      ((releases ≤ tag_in k) × (k' ≡ loaded releases k))
  pub due : AcksIfDue k k'
  pub stays : StaysAtWork 0 k k'

-- a poll whose acknowledgement had no memory
pub record PollsInVain (k k' : LogKnown) : Type 0 where
  pub left : Grows k MakesNothing k'
  pub stays : StaysAtWork 0 k k'

-- the seat ended
abbrev pub Ends : LogKnown → LogKnown → Type 0
Ends k k' = Calls (LogsCall call.End reply.Ended) k k'
