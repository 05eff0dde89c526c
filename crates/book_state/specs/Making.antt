-- A find that makes a metric. This project's own.
use Rattle.std.specs.Prelude.{◌≡◌, ℕ, Some}
use Rattle.stat_defs.specs.declared.events.Key.{Key}
use Rattle.stat_defs.specs.declared.history.Call.TheVariants as call
use Rattle.stat_defs.specs.declared.history.Entry.{Entry}
use Rattle.stat_defs.specs.Names.{IsFullName}
use Rattle.book_state.specs.declared.tables.NameKey.{NameKey}
use Rattle.book_state.specs.Finding.{name_of}
use Rattle.book_state.specs.State.{State, live_scope}
use Rattle.book_state.specs.Stored.{StateView, IsNext, MakesOf}

-- the kind and full name that a key means in the live scope of its label
pub record IsMeant (s : State) (key : Key) (means : NameKey) : Type 0 where
  pub kind : means.kind ≡ key.kind
  pub name : means.name ≡ name_of s key
  pub full : IsFullName means.name

-- the entry of a find that makes the metric which the key means in this scope
pub record MakesMetric (v : StateView) (id : ℕ) (key : Key) (name : NameKey) (entry : Entry) : Type 0 where
  pub next : IsNext v entry
  pub find : entry.call ≡ call.Find key
  pub made : MakesOf entry.reply
  pub scope : live_scope v.state key.label ≡ Some id
  pub means : IsMeant v.state key name
