-- Reports that differ from that of the worked run, or from what was asked for, in one place, and are no ledgers. This
-- project's own.
use Rattle.std.specs.Prelude.{◌++◌, pos, List, [], ◌∷◌, take, drop}
use Rattle.stat_defs.specs.declared.history.Entry.{Entry}
use Rattle.stat_defs.specs.declared.reports.Part.{Part}
use Rattle.stat_defs.specs.declared.reports.Report.{Report}
use Rattle.book_state.specs.Log.{Legal}
use Rattle.book_state.specs.Worked.{plain, root_alone}
use Rattle.ledger.specs.Work.{Work, apart}
use Rattle.ledger.specs.Ledger.{RunPlan, AreRead, HasHistory, AreSwept, Account, AreShown}
use Rattle.ledger.specs.Worked.{delta, reading}
use Rattle.worked_runs.specs.Run.{plan_of_run, events_of_run, files_of_run, part_of, first_flush, second_flush}
use Rattle.worked_runs.specs.Run.{last_flush, flushes_with, flushes_of_run, early_read, late_read, reads_of_run}
use Rattle.worked_runs.specs.Run.{report_with, log_of_run}

-- the log has no end of worker 2, so the last sweep stands one place earlier
abbrev pub log_without_end : List Entry
log_without_end = take 9 log_of_run ++ drop 10 log_of_run

abbrev pub end_left_out : Report
end_left_out = record
    (report_with (first_flush (part_of 1) ∷ second_flush ∷ record (last_flush 2) { at = 10 } ∷ []) reads_of_run)
    { log = log_without_end }

-- the second flush stands before the first one
abbrev pub flushes_exchanged : Report
flushes_exchanged = report_with (second_flush ∷ first_flush (part_of 1) ∷ last_flush 2 ∷ []) reads_of_run

-- one flush more was asked for than the worked report has
abbrev pub plan_of_more : RunPlan
plan_of_more = record plan_of_run { flushes = 3 }

-- the first flush is left out, and its units and its value stand in the second one; one flush less was asked for
abbrev pub flushes_joined : Report
flushes_joined = report_with
    (record second_flush { deltas = delta 1 7 ∷ []; parts = part_of 1 ∷ part_of 2 ∷ [] } ∷ last_flush 2 ∷ [])
    reads_of_run

abbrev pub plan_of_fewer : RunPlan
plan_of_fewer = record plan_of_run { flushes = 1 }

-- the first flush stands at the entry behind its sweep
abbrev pub beside_its_sweep : Report
beside_its_sweep = report_with
    (record (first_flush (part_of 1)) { at = 4 } ∷ second_flush ∷ last_flush 2 ∷ []) reads_of_run

-- the last flush has the 4 units of the second one too
abbrev pub counted_twice : Report
counted_twice = report_with (flushes_with (part_of 1) 6) reads_of_run

-- the first flush has the value under worker 2
abbrev pub part_moved : Report
part_moved = report_with (flushes_with (part_of 2) 2) reads_of_run

-- the first flush has the value in the bin of 8, and it was 7
abbrev pub part_of_8 : Part
part_of_8 = record (part_of 1) { bins = record { bin = record { val = 80; exp = pos 0 }; count = 1 } ∷ [] }

abbrev pub value_in_another_bin : Report
value_in_another_bin = report_with (flushes_with part_of_8 2) reads_of_run

-- the first flush has no part, and no other has its value
abbrev pub value_lost : Report
value_lost = report_with
    (record (first_flush (part_of 1)) { parts = [] } ∷ second_flush ∷ last_flush 2 ∷ []) reads_of_run

-- the first flush has the gauge, which was made behind its sweep
abbrev pub gauge_too_early : Report
gauge_too_early = report_with
    (record (first_flush (part_of 1)) { gauges = reading 2 9 ∷ [] } ∷ second_flush ∷ last_flush 2 ∷ []) reads_of_run

-- the last flush has a word of the gauge that no worker set
abbrev pub word_unset : Report
word_unset = report_with
    (first_flush (part_of 1) ∷ second_flush ∷ record (last_flush 2) { gauges = reading 2 4 ∷ [] } ∷ []) reads_of_run

-- the first flush has no delta of the counter, which was made before its sweep, and the second one has its 3 units too
abbrev pub delta_left_out : Report
delta_left_out = report_with
    (record (first_flush (part_of 1)) { deltas = [] } ∷ record second_flush { deltas = delta 1 7 ∷ [] } ∷ last_flush 2
    ∷ []) reads_of_run

-- the early reading has no counter, though it was made by then
abbrev pub counter_left_out : Report
counter_left_out = report_with flushes_of_run (record (early_read 3) { counters = [] } ∷ late_read 7 ∷ [])

-- the early reading has the gauge, which was made behind its place
abbrev pub gauge_read_too_early : Report
gauge_read_too_early = report_with flushes_of_run
    (record (early_read 3) { gauges = reading 2 9 ∷ [] } ∷ late_read 7 ∷ [])

-- the late reading is of more log entries than there are
abbrev pub place_behind_the_log : Report
place_behind_the_log = report_with flushes_of_run (early_read 3 ∷ record (late_read 7) { at = 13 } ∷ [])

-- the late reading shows 10 units of 9
abbrev pub units_made_up : Report
units_made_up = report_with flushes_of_run (early_read 3 ∷ late_read 10 ∷ [])

-- the counter is at 7 and then at 3
abbrev pub value_fallen : Report
value_fallen = report_with flushes_of_run (early_read 7 ∷ late_read 3 ∷ [])

-- the late reading stands before the early one, though its counter is lower
abbrev pub place_fallen : Report
place_fallen = report_with flushes_of_run (late_read 3 ∷ early_read 7 ∷ [])

-- the late reading is left out
abbrev pub reading_left_out : Report
reading_left_out = report_with flushes_of_run (early_read 3 ∷ [])

abbrev pub works_in : Report → List Work
works_in report = apart events_of_run report.verdicts

-- the report is no ledger of the run by its second part alone, and there by what a worker's entries follow, since the
-- log is legal
pub record SecondAloneBroken (report : Report) : Type 0 where
  pub read : AreRead files_of_run events_of_run report
  pub legal : Legal plain root_alone 2 report.log
  pub no_history : HasHistory plan_of_run (works_in report) report → ⊥
  pub swept : AreSwept plan_of_run report
  pub account : Account plan_of_run (works_in report) report
  pub shown : AreShown plan_of_run (works_in report) report

-- the report is no ledger of a run of this plan by its third part alone, the flushes and their sweeps
pub record ThirdAloneBroken (plan : RunPlan) (report : Report) : Type 0 where
  pub read : AreRead files_of_run events_of_run report
  pub history : HasHistory plan (works_in report) report
  pub not_swept : AreSwept plan report → ⊥
  pub account : Account plan (works_in report) report
  pub shown : AreShown plan (works_in report) report

-- the report is no ledger of the run by its fourth part alone, the account of what was accepted
pub record FourthAloneBroken (report : Report) : Type 0 where
  pub read : AreRead files_of_run events_of_run report
  pub history : HasHistory plan_of_run (works_in report) report
  pub swept : AreSwept plan_of_run report
  pub no_account : Account plan_of_run (works_in report) report → ⊥
  pub shown : AreShown plan_of_run (works_in report) report

-- and by its fifth part alone, the readings
pub record FifthAloneBroken (report : Report) : Type 0 where
  pub read : AreRead files_of_run events_of_run report
  pub history : HasHistory plan_of_run (works_in report) report
  pub swept : AreSwept plan_of_run report
  pub account : Account plan_of_run (works_in report) report
  pub not_shown : AreShown plan_of_run (works_in report) report → ⊥
