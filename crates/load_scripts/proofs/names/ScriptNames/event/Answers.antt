use Rattle.std.proofs.Common.{arith, sym, subst}
use Rattle.stat_defs.specs.Events.{IsLawfulEvent}
use Rattle.load_scripts.proofs.Lawful.{lawful_by}
use Rattle.load_scripts.proofs.names.ScriptNames.event.Goals as goal

pub returns-clause-lawful : goal.returns-clause-lawful
returns-clause-lawful c =
    subst (λ e. IsLawfulEvent e) (sym c.event_by.ensures)
    (lawful_by _ c.drawn.result (omega (arith, c.self.view_is, c.self.invariant.script)) c.drawn.ensures.bound)
