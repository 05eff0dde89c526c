-- Laws of the accounts of a run. This project's own.
use Rattle.std.specs.Prelude.{ℕ, Option, List}
use Rattle.stat_defs.specs.declared.events.Event.{Event}
use Rattle.stat_defs.specs.declared.reports.Report.{Report}
use Rattle.ledger.specs.Ledger.{RunPlan, AreRead, RunLedger}
use Rattle.run_ledger.specs.Told.{RunTold}
use Rattle.run_ledger.specs.Accounts.{RunAccounts}

-- where the files were read and all parties account for what they did, the report is a ledger of the run
abbrev pub RunsAccount : Type 0
RunsAccount = (contents : List (Option (List ℕ))) (events : List (List Event)) (plan : RunPlan) (told : RunTold)
    (report : Report)
    → AreRead contents events report → RunAccounts plan events told report → RunLedger contents events plan report
