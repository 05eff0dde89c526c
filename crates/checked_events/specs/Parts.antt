-- Which part of an event is at fault. This project's own.
use Rattle.std.specs.Prelude.{◌<◌, ◌^◌, ◌==◌, ◌||◌, ℕ, Bool, List, [], ◌∷◌, length, not, nat_lt}
use Rattle.std.specs.List.{ends_with}
use Rattle.stat_defs.specs.declared.events.Event.{Event}
use Rattle.stat_defs.specs.declared.events.Event.TheVariants as event
use Rattle.stat_defs.specs.declared.events.TheConstants.{MAX_NAME_BYTES}
use Rattle.stat_defs.specs.Names.{IsLabel, IsLocalName}
use Rattle.stat_defs.specs.Events.{IsReadout, IsOpenedPrefix}
use Rattle.checked_events.specs.declared.fault.EventFault.{EventFault}
use Rattle.checked_events.specs.declared.fault.EventFault.TheVariants as fault

-- a prefix with a final dot is written with one dot more
abbrev pub has_room_for_dot : List ℕ → Bool
has_room_for_dot text = not (ends_with ◌==◌ text (46 ∷ [])) || nat_lt (length text) MAX_NAME_BYTES

abbrev pub label_of : Event → List ℕ
label_of (event.Inc label name n) = label
label_of (event.Gauge label name mode op n) = label
label_of (event.Rec label name v) = label
label_of (event.SetText label name text) = label
label_of (event.OpenScope label prefix) = label
label_of (event.Release label) = label

-- the name of a metric; an event on a scope has none
abbrev pub HasName : Event → Type 0
HasName (event.Inc label name n) = IsLocalName name
HasName (event.Gauge label name mode op n) = IsLocalName name
HasName (event.Rec label name v) = IsLocalName name
HasName (event.SetText label name text) = IsLocalName name
HasName _ = Unit {0}

abbrev pub HasPrefix : Event → Type 0
HasPrefix (event.OpenScope label prefix) = IsOpenedPrefix prefix
HasPrefix _ = Unit {0}

abbrev pub HasText : Event → Type 0
HasText (event.SetText label name text) = IsReadout text
HasText _ = Unit {0}

-- a gauge's number has 63 bits; every other number has the bits of its type
abbrev pub HasAmount : Event → Type 0
HasAmount (event.Gauge label name mode op n) = n < 2 ^ 63
HasAmount _ = Unit {0}

-- This part is at fault, and those before it in the event's line are not. Want of memory blames no part.
abbrev pub Blames : Event → EventFault → Type 0
Blames e fault.Label = ¬ IsLabel (label_of e)
Blames e fault.Name = IsLabel (label_of e) × ¬ HasName e
Blames e fault.Prefix = IsLabel (label_of e) × ¬ HasPrefix e
Blames e fault.Text = IsLabel (label_of e) × HasName e × ¬ HasText e
Blames e fault.Amount = IsLabel (label_of e) × HasName e × ¬ HasAmount e
Blames e fault.NoMemory = Unit {0}
