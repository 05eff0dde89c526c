-- What a verdict on a key names (this project's own).
use Rattle.std.specs.Prelude.{◌≡◌, ◌<◌, ℕ, true, false, Some, IfSome, slice_get}
use Rattle.std.specs.Option.{IsSomeAnd}
use Rattle.stat_defs.specs.declared.events.Event.{Event}
use Rattle.stat_defs.specs.declared.events.Key.{Key}
use Rattle.stat_defs.specs.declared.history.Verdict.{Verdict}
use Rattle.stat_defs.specs.declared.history.Verdict.TheVariants.{Accepted}
use Rattle.book_state.specs.declared.limits.TheConstants.{MAX_METRICS}
use Rattle.book_state.specs.State.{State, is_gone}
use Rattle.book_state.specs.Step.{Working, holds_text}
use Rattle.book_state.specs.Follows.{held_verdict, event_key}
use Rattle.book_state.specs.SeatLaws.{is_held}
use Rattle.seat_history.specs.declared.known.LogKnown.{LogKnown}
use Rattle.book_access.specs.Calling.{known_state}

-- a verdict that accepts or rejects is held under the key
abbrev pub IsHeldNow : State → ℕ → Key → Verdict → Type 0
IsHeldNow s seat key v = is_held v ≡ true → held_verdict s seat key ≡ Some v

-- so is an event's, under its key
abbrev pub HoldsVerdict : LogKnown → Event → Verdict → Type 0
HoldsVerdict k e v = IfSome (event_key e) (λ key. IsHeldNow (known_state k) k.number key v)

-- the metric of an accepted verdict is a text readout that the seat holds
abbrev pub MaySet : State → ℕ → Verdict → Type 0
MaySet s seat (Accepted id) = Working s seat (λ row. holds_text id.0 row ≡ true)
MaySet s seat _ = Unit {0}

-- an accepted verdict names a metric of the key's kind that is not gone
abbrev pub NamesLive : State → Key → Verdict → Type 0
NamesLive s key (Accepted id) = IsSomeAnd (slice_get s.metrics id.0)
    (λ row. (row.metric.kind ≡ key.kind) × (is_gone row.metric.life ≡ false))
NamesLive s key _ = Unit {0}

-- so does an event's, for its key
abbrev pub NamesOwn : State → Event → Verdict → Type 0
NamesOwn s e v = IfSome (event_key e) (λ key. NamesLive s key v)

-- an accepted verdict names one of the metrics that a store has room for
abbrev pub IsInRoom : Verdict → Type 0
IsInRoom (Accepted id) = id.0 < MAX_METRICS
IsInRoom _ = Unit {0}

-- so does an event's, if it looks for a key
abbrev pub NamesInRoom : Event → Verdict → Type 0
NamesInRoom e v = IfSome (event_key e) (λ key. IsInRoom v)
