use Rattle.std.proofs.Common.{sym, subst}
use Rattle.std.specs.Prelude.{IfOk, OnErr}
use Rattle.stat_defs.specs.Events.{IsLawfulEvent}
use Rattle.stat_defs.specs.declared.events.Event.{Event}
use Rattle.plain_store.specs.Store.{Applied, IsCutShort}
use Rattle.plain_store.proofs.store.PlainStore.apply.Goals as goal

pub apply_ref-requires-clause-lawful : goal.apply_ref-requires-clause-lawful
apply_ref-requires-clause-lawful c = subst IsLawfulEvent (sym c.borrowed.ensures) c.requires.lawful

pub returns-clause-ok : goal.returns-clause-ok
returns-clause-ok c =
    subst (λ (e : Event). IfOk c.apply_ref.result (λ v. Applied c.args.self.now e v c.apply_ref.new.self)) c.borrowed.ensures
    c.apply_ref.ensures.ok

pub returns-clause-err : goal.returns-clause-err
returns-clause-err c =
    subst (λ (e : Event). OnErr c.apply_ref.result (IsCutShort c.args.self.now e c.apply_ref.new.self)) c.borrowed.ensures
    c.apply_ref.ensures.err
