-- What an event and a key may hold (the event file is this project's own; scopes, kinds and modes: Envoy's design note
-- on statistics).
use Rattle.std.specs.Prelude.{◌≡◌, ◌≢◌, ◌<◌, ◌^◌, ◌==◌, ℕ, true, List, [], ◌∷◌, length, codes}
use Rattle.std.specs.List.{list_all, ends_with}
use Rattle.stat_defs.specs.declared.events.TheConstants.{MAX_NAME_BYTES}
use Rattle.stat_defs.specs.declared.events.Event.{Event}
use Rattle.stat_defs.specs.declared.events.Event.TheVariants as event
use Rattle.stat_defs.specs.declared.events.Key.{Key}
use Rattle.stat_defs.specs.declared.ids.Kind.{Kind}
use Rattle.stat_defs.specs.declared.ids.Kind.TheVariants.{Counter, Gauge, Histogram, Text}
use Rattle.stat_defs.specs.declared.ids.Mode.{Mode}
use Rattle.stat_defs.specs.declared.ids.Mode.TheVariants.{Uninit}
use Rattle.stat_defs.specs.Names.{is_printable_byte, IsLabel, IsLocalName, IsScopePrefix}

-- a text readout holds printable bytes and spaces
abbrev pub IsReadout : List ℕ → Type 0
IsReadout text = list_all is_printable_byte text ≡ true

-- an opening's prefix is written in at most 255 bytes: behind a final dot with one dot more, and `-` for the empty one
pub record IsOpenedPrefix (prefix : List ℕ) : Type 0 where
  pub fits : IsScopePrefix prefix
  pub room_for_dot : ends_with ◌==◌ prefix (46 ∷ []) ≡ true → length prefix < MAX_NAME_BYTES
  pub not_dash : prefix ≢ codes "-"

-- a counter's units have 32 bits, a gauge's number has 63, and a histogram's value 64
abbrev pub IsLawfulEvent : Event → Type 0
IsLawfulEvent (event.Inc label name n) = IsLabel label × IsLocalName name × (n < 2 ^ 32)
IsLawfulEvent (event.Gauge label name mode op n) = IsLabel label × IsLocalName name × (n < 2 ^ 63)
IsLawfulEvent (event.Rec label name v) = IsLabel label × IsLocalName name × (v < 2 ^ 64)
IsLawfulEvent (event.SetText label name text) = IsLabel label × IsLocalName name × IsReadout text
IsLawfulEvent (event.OpenScope label prefix) = IsLabel label × IsOpenedPrefix prefix
IsLawfulEvent (event.Release label) = IsLabel label

-- a gauge has a mode of its own, and every other kind the first one
abbrev pub FitsKind : Kind → Mode → Type 0
FitsKind Gauge mode = Unit {0}
FitsKind Counter mode = mode ≡ Uninit
FitsKind Histogram mode = mode ≡ Uninit
FitsKind Text mode = mode ≡ Uninit

pub record IsLawfulKey (key : Key) : Type 0 where
  pub label : IsLabel key.label
  pub name : IsLocalName key.name
  pub mode : FitsKind key.kind key.mode
