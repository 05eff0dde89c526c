-- Entries that a book logs. This project's own.
use Rattle.std.specs.Prelude.{ℕ}
use Rattle.stat_defs.specs.declared.configs.ScopeSpec.{ScopeSpec}
use Rattle.stat_defs.specs.declared.history.Call.TheVariants as call
use Rattle.stat_defs.specs.declared.history.Entry.{Entry}
use Rattle.stat_defs.specs.declared.history.Reply.{Reply}
use Rattle.stat_defs.specs.declared.history.Reply.TheVariants as reply

-- the store's opening of a configured scope
abbrev pub first_entry : ℕ → ScopeSpec → Entry
first_entry id scope = record {
  seat = 0;
  call = call.OpenScope scope.label scope.prefix;
  reply = reply.Opened
      (record { 0 = id });
}

-- the reply makes no metric and makes none gone
abbrev pub KeepsNames : Reply → Type 0
KeepsNames (reply.Made id numbers) = ⊥
KeepsNames (reply.Swept n) = ⊥
KeepsNames _ = Unit {0}
