-- What an event makes in a log that others may lengthen too (this project's own).
use Rattle.std.specs.Prelude.{◌≡◌, ◌⊎◌, ℕ, Option, Some, None, List, [], ◌∷◌}
use Rattle.std.specs.Option.{IsSomeAnd}
use Rattle.stat_defs.specs.declared.events.Event.{Event}
use Rattle.stat_defs.specs.declared.events.Event.TheVariants as event
use Rattle.stat_defs.specs.declared.events.Key.{Key}
use Rattle.stat_defs.specs.declared.history.Call.{Call}
use Rattle.stat_defs.specs.declared.history.Call.TheVariants as call
use Rattle.stat_defs.specs.declared.history.Reply.TheVariants as reply
use Rattle.stat_defs.specs.declared.history.Verdict.{Verdict}
use Rattle.stat_defs.specs.declared.history.Verdict.TheVariants as verdict
use Rattle.stat_defs.specs.declared.ids.Kind.TheVariants as kind
use Rattle.stat_defs.specs.declared.ids.Mode.TheVariants.{Uninit}
use Rattle.book_state.specs.Follows.{Own, held_verdict, Makes, MakesAcked, event_key, key_in}
use Rattle.seat_history.specs.declared.known.LogKnown.{LogKnown}
use Rattle.book_access.specs.Calling.{known_state, Calls}
use Rattle.book_access.specs.Making.{IsAsFound, AnswersCall, LogsCall}
use Rattle.book_seat.specs.Growing.{Grows, StaysAtWork}
use Rattle.book_seat.specs.Naming.{IsHeldNow, HoldsVerdict, NamesOwn, NamesInRoom}

-- the verdict that the seat holds under a key
abbrev pub held_in_log : LogKnown → Key → Option Verdict
held_in_log k key = held_verdict (known_state k) k.number key

-- the verdict that one look-up decides: that which is held under the key; none for a text, an opening and a release
abbrev pub hit_in : LogKnown → Event → Option Verdict
hit_in k (event.Inc label name n) = held_in_log k (key_in label kind.Counter Uninit name)
hit_in k (event.Gauge label name mode op n) = held_in_log k (key_in label kind.Gauge mode name)
hit_in k (event.Rec label name n) = held_in_log k (key_in label kind.Histogram Uninit name)
hit_in k _ = None

-- the book is left alone, or one call left it as it was found
abbrev pub MakesNone : LogKnown → LogKnown → Type 0
MakesNone k k' = (k' ≡ k) ⊎ Calls IsAsFound k k'

-- the verdict on a key is the one that is held, and the book is left alone; where none is held, it is that of one find
abbrev pub Judges : LogKnown → Key → Verdict → LogKnown → Type 0
Judges k key v k' = ((held_in_log k key ≡ Some v) × (k' ≡ k))
    ⊎ ((held_in_log k key ≡ None) × Calls (AnswersCall (call.Find key) v) k k')

-- an accepted text is set, and nothing else is done
abbrev pub Sets : LogKnown → List ℕ → Verdict → LogKnown → Type 0
Sets k text (verdict.Accepted id) k' = Calls (LogsCall (call.SetText id text) reply.TextSet) k k'
Sets k text _ k' = k' ≡ k

-- one call was answered with this verdict
pub record CallsBook (scopes : ℕ) (call : Call) (v : Verdict) (k k' : LogKnown) : Type 0 where
  pub calls : Calls (AnswersCall call v) k k'
  pub stays : StaysAtWork scopes k k'

-- a key was judged, and its verdict is held if it is one to hold
pub record JudgesKey (key : Key) (v : Verdict) (k k' : LogKnown) : Type 0 where
  pub judges : Judges k key v k'
  pub held : IsHeldNow (known_state k') k'.number key v
  pub stays : StaysAtWork 0 k k'

-- the text was set if the verdict accepts it, and what the seat holds stays
pub record SetsText (text : List ℕ) (v : Verdict) (k k' : LogKnown) : Type 0 where
  pub sets : Sets k text v k'
  pub held : (key : Key) → held_in_log k' key ≡ held_in_log k key
  pub stays : StaysAtWork 0 k k'

-- a call for which there was no memory
pub record CallsInVain (k k' : LogKnown) : Type 0 where
  pub none : MakesNone k k'
  pub stays : StaysAtWork 0 k k'

-- what an event with this verdict makes where no acknowledgement is due
abbrev pub AddsEvent : LogKnown → Event → Verdict → LogKnown → Type 0
AddsEvent k e v k' = Grows k (Makes k.number (known_state k) e v) k'

-- what it makes, an acknowledgement first where one is due
abbrev pub AppliesEvent : LogKnown → Event → Verdict → LogKnown → Type 0
AppliesEvent k e v k' = Grows k (MakesAcked k.number (known_state k) e v) k'

-- An event was decided. If it looks for a key, an accepted verdict names a live metric of the key's kind, and is held.
pub record DecidesEvent (e : Event) (v : Verdict) (k k' : LogKnown) : Type 0 where
  pub added : AddsEvent k e v k'
  pub held : HoldsVerdict k' e v
  pub names : NamesOwn (known_state k') e v
  pub in_room : NamesInRoom e v
  pub stays : StaysAtWork 1 k k'

-- what want of memory may leave of an event: nothing, or the find of its key, of an event that has one
abbrev pub IsCutOff : Event → List Own → Type 0
IsCutOff e made = (made ≡ []) ⊎ ((o : Own) × (made ≡ o ∷ []) × IsSomeAnd (event_key e) (λ key. o.call ≡ call.Find key))

-- an event was cut short by want of memory
pub record CutsEvent (e : Event) (k k' : LogKnown) : Type 0 where
  pub left : Grows k (IsCutOff e) k'
  pub stays : StaysAtWork 0 k k'
