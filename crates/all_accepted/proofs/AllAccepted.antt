-- Each event that names an admitted metric is accepted, by a run and by a replay.
use Rattle.std.proofs.Common.{ℕ, Option, List}
use Rattle.std.specs.List.{AllByRecursion, zip}
use Rattle.stat_defs.specs.declared.events.Event.{Event}
use Rattle.stat_defs.specs.declared.reports.Report.{Report}
use Rattle.ledger.specs.Ledger.{RunPlan, RunLedger, ReplayLedger, last_flush_alone}
use Rattle.ledger.specs.Work.{Work, work_of, apart, together}
use Rattle.all_accepted.specs.Admitted.{HasRoomForAll, AreAccepted}
use Rattle.all_accepted.proofs.InLists.{all_apart}
use Rattle.all_accepted.proofs.Accepted.{IsTaken, of_files}
use Rattle.all_accepted.proofs.Runs.{each_taken}
use Rattle.all_accepted.proofs.Files.{apart_fit, together_fit}

pub accepted_by_run : (contents : List (Option (List ℕ))) (events : List (List Event)) (plan : RunPlan) (report : Report)
    → HasRoomForAll plan events → RunLedger contents events plan report → AreAccepted plan events report
accepted_by_run contents events plan report room is =
    of_files plan events room work_of (λ (work : Work). AllByRecursion (λ told. IsTaken plan events room told.0 told.1) work)
    (zip events report.verdicts)
    (each_taken plan events room contents (apart events report.verdicts) report is (apart_fit plan events room report.verdicts))

-- what is named does not depend on how many flushes are asked for
room_alone : (plan : RunPlan) (events : List (List Event)) → HasRoomForAll plan events → HasRoomForAll (last_flush_alone plan) events
room_alone plan events room = record {
  no_scopes = room.no_scopes;
  names = room.names;
  all_named = room.all_named;
  few = room.few;
  few_histograms = room.few_histograms;
}

pub accepted_by_replay : (contents : List (Option (List ℕ))) (events : List (List Event)) (plan : RunPlan) (report : Report)
    → HasRoomForAll plan events → ReplayLedger contents events plan report → AreAccepted plan events report
accepted_by_replay contents events plan report room is =
    let one : RunPlan = last_flush_alone plan in
    let same : HasRoomForAll one events = room_alone plan events room in
    all_apart (λ told. IsTaken one events same told.0 told.1) work_of (zip events report.verdicts)
    (each_taken one events same contents (together events report.verdicts) report is
    (together_fit one events same report.verdicts is.read.a_verdict_each)).0
