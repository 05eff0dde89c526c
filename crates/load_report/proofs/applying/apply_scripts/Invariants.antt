use Rattle.load_report.specs.LoadRun.{AreScriptsApplied}
use Rattle.load_report.proofs.applying.apply_scripts.Given as goal

abbrev pub invariant-loop-before : goal.invariant-loop-before
invariant-loop-before l = AreScriptsApplied l.fn.store l.before l.fn.events l.verdicts.items l.store
