-- A worked run: two workers, two flushes before the last one, and two readings. This project's own.
use Rattle.std.specs.Prelude.{◌++◌, ℕ, Option, List, [], ◌∷◌, take, codes}
use Rattle.stat_defs.specs.declared.configs.Config.{Config}
use Rattle.stat_defs.specs.declared.configs.MatchSpec.TheVariants as matcher
use Rattle.stat_defs.specs.declared.events.Event.{Event}
use Rattle.stat_defs.specs.declared.events.Event.TheVariants as event
use Rattle.stat_defs.specs.declared.history.Entry.{Entry}
use Rattle.stat_defs.specs.declared.history.Verdict.{Verdict}
use Rattle.stat_defs.specs.declared.reports.Part.{Part}
use Rattle.stat_defs.specs.declared.reports.FlushRecord.{FlushRecord}
use Rattle.stat_defs.specs.declared.reports.ReadRecord.{ReadRecord}
use Rattle.stat_defs.specs.declared.reports.Report.{Report}
use Rattle.seat_history.specs.declared.known.LogKnown.{LogKnown}
use Rattle.seat_history.specs.History.{past, entries_by}
use Rattle.metric_words.specs.declared.counter_view.CountKind.TheVariants as count
use Rattle.metric_words.specs.declared.counter_view.SeatRole.TheVariants.{Worker}
use Rattle.metric_words.specs.declared.counter_view.CountStep.{CountStep}
use Rattle.metric_words.specs.declared.counter_view.CountPart.{CountPart}
use Rattle.metric_words.specs.declared.gauge_view.GaugeKind.TheVariants as gauge
use Rattle.metric_words.specs.declared.gauge_view.GaugePart.{GaugePart}
use Rattle.metric_words.specs.declared.gauge_view.GaugeStep.{GaugeStep}
use Rattle.metric_words.specs.Counters.{step_of}
use Rattle.metric_words.specs.Gauges.{gauge_step}
use Rattle.book_state.specs.Log.{openings}
use Rattle.book_state.specs.Worked.{plain, root_alone, ends, sweeps}
use Rattle.ledger.specs.Work.{work_of}
use Rattle.ledger.specs.Ledger.{RunPlan, RunLedger}
use Rattle.ledger.specs.Worked.{accepted, delta, reading, part_of_7, sets, file_of, whole_end, makes_key, finds_key}
use Rattle.ledger.specs.Worked.{counter_a, gauge_g, histogram_h}
use Rattle.run_ledger.specs.Told.{WorkerTold, FlushTold, ReadTold, RunTold}
use Rattle.run_ledger.specs.Accounts.{RunAccounts}

abbrev pub plan_of_run : RunPlan
plan_of_run = record { rules = plain; scopes = root_alone; flushes = 2; reads = 2 }

abbrev pub records_7 : Event
records_7 = event.Rec (codes "root") (codes "h") 7

abbrev pub adds : ℕ → Event
adds n = event.Inc (codes "root") (codes "a") n

abbrev pub first_events : List Event
first_events = records_7 ∷ adds 3 ∷ sets 5 ∷ adds 2 ∷ []

abbrev pub second_events : List Event
second_events = adds 4 ∷ records_7 ∷ sets 9 ∷ []

abbrev pub first_verdicts : List Verdict
first_verdicts = accepted 0 ∷ accepted 1 ∷ accepted 2 ∷ accepted 1 ∷ []

abbrev pub second_verdicts : List Verdict
second_verdicts = accepted 1 ∷ accepted 0 ∷ accepted 2 ∷ []

-- the last increment is on a held key, and makes no entry
abbrev pub log_of_run : List Entry
log_of_run = openings 0 root_alone
    ++ makes_key 1 histogram_h 0 1
    ∷ makes_key 1 counter_a 1 2
    ∷ sweeps 0
    ∷ finds_key 2 counter_a 1
    ∷ finds_key 2 histogram_h 0
    ∷ sweeps 0
    ∷ makes_key 1 gauge_g 2 3
    ∷ finds_key 2 gauge_g 2
    ∷ ends 2
    ∷ ends 1
    ∷ sweeps 0
    ∷ []

-- the bins of 7 under this worker
abbrev pub part_of : ℕ → Part
part_of worker = record part_of_7 { worker = worker }

-- the first flush has this part, and the last one so many units
abbrev pub first_flush : Part → FlushRecord
first_flush part = record { at = 3; deltas = delta 1 3 ∷ []; gauges = []; parts = part ∷ [] }

abbrev pub second_flush : FlushRecord
second_flush = record { at = 6; deltas = delta 1 4 ∷ []; gauges = []; parts = part_of 2 ∷ [] }

abbrev pub last_flush : ℕ → FlushRecord
last_flush units = record { at = 11; deltas = delta 1 units ∷ []; gauges = reading 2 5 ∷ []; parts = [] }

abbrev pub flushes_with : Part → ℕ → List FlushRecord
flushes_with part units = first_flush part ∷ second_flush ∷ last_flush units ∷ []

abbrev pub flushes_of_run : List FlushRecord
flushes_of_run = flushes_with (part_of 1) 2

-- a reading of the log before the gauge was made, and one behind it
abbrev pub early_read : ℕ → ReadRecord
early_read units = record { at = 4; counters = reading 1 units ∷ []; gauges = [] }

abbrev pub late_read : ℕ → ReadRecord
late_read units = record { at = 8; counters = reading 1 units ∷ []; gauges = reading 2 9 ∷ [] }

abbrev pub reads_of_run : List ReadRecord
reads_of_run = early_read 3 ∷ late_read 7 ∷ []

abbrev pub report_with : List FlushRecord → List ReadRecord → Report
report_with flushes reads = record {
  verdicts = first_verdicts ∷ second_verdicts ∷ [];
  flushes = flushes;
  log = log_of_run;
  reads = reads;
  ends = whole_end ∷ whole_end ∷ [];
}

abbrev pub report_of_run : Report
report_of_run = report_with flushes_of_run reads_of_run

abbrev pub events_of_run : List (List Event)
events_of_run = first_events ∷ second_events ∷ []

abbrev pub files_of_run : List (Option (List ℕ))
files_of_run = file_of first_events ∷ file_of second_events ∷ []

abbrev pub IsLedgerOfRun : Report → Type 0
IsLedgerOfRun report = RunLedger files_of_run events_of_run plan_of_run report

-- What the parties tell. The seats of the two workers, with these steps, the newest first.
abbrev pub counts_of : ℕ → List CountStep → CountPart
counts_of seat steps = record { role = Worker; seat = seat; workers = 2; steps = steps }

abbrev pub gauges_of : ℕ → List GaugeStep → GaugePart
gauges_of seat steps = record { seat = seat; workers = 2; steps = steps }

-- no more than `root` is configured
abbrev pub root_config : Config
root_config = record {
  tags = [];
  tag_paths = [];
  matcher = matcher.AdmitAll;
  buckets = [];
  statsd_prefix = [];
  scopes = root_alone;
  flushes = 2;
  flush_every = 1;
  reads = 2;
}

-- a worker's seat of the book that left this log last
abbrev pub seat_with : ℕ → List Entry → LogKnown
seat_with seat log = record {
  number = seat;
  config = root_config;
  workers = 2;
  first = openings 0 root_alone;
  known = log;
  made = entries_by seat (past (openings 0 root_alone) log);
  seen = 0;
}

-- it records 7, which the first flush takes, adds 3 and 2, and sets the gauge to 5, where it finds 9
abbrev pub first_told : WorkerTold
first_told = record {
  work = work_of (first_events, first_verdicts);
  seat = seat_with 1 (take 11 log_of_run);
  counts = counts_of 1 (
      step_of count.Second 1 2 0
      ∷ step_of count.First 1 2 7
      ∷ step_of count.Second 1 3 0
      ∷ step_of count.First 1 3 0
      ∷ []);
  gauges = gauges_of 1 (gauge_step gauge.Set 2 5 9 ∷ []);
  turned = ((0, 7) ∷ []) ∷ [];
  active = [];
}

-- it adds 4 behind the 3, records 7, which the second flush takes, and sets the gauge to 9, where it finds 0
abbrev pub second_told : WorkerTold
second_told = record {
  work = work_of (second_events, second_verdicts);
  seat = seat_with 2 (take 10 log_of_run);
  counts = counts_of 2 (step_of count.Second 1 4 0 ∷ step_of count.First 1 4 3 ∷ []);
  gauges = gauges_of 2 (gauge_step gauge.Set 2 9 0 ∷ []);
  turned = ((0, 7) ∷ []) ∷ [];
  active = [];
}

-- each flush takes the halves that were turned, and the last one both active halves
abbrev pub first_taken : FlushTold
first_taken = record {
  shown = first_flush (part_of 1);
  found = take 3 log_of_run;
  sweep = sweeps 0;
  halves = (((0, 7) ∷ []) ∷ []) ∷ [] ∷ [];
}

abbrev pub second_taken : FlushTold
second_taken = record {
  shown = second_flush;
  found = take 6 log_of_run;
  sweep = sweeps 0;
  halves = [] ∷ (((0, 7) ∷ []) ∷ []) ∷ [];
}

abbrev pub last_taken : FlushTold
last_taken = record {
  shown = last_flush 2;
  found = take 11 log_of_run;
  sweep = sweeps 0;
  halves = ([] ∷ []) ∷ ([] ∷ []) ∷ [];
}

abbrev pub early_told : ReadTold
early_told = record { shown = early_read 3; found = take 4 log_of_run }

abbrev pub late_told : ReadTold
late_told = record { shown = late_read 7; found = take 8 log_of_run }

abbrev pub told_of_run : RunTold
told_of_run = record {
  workers = first_told ∷ second_told ∷ [];
  flushes = first_taken ∷ second_taken ∷ [];
  last = last_taken;
  reads = early_told ∷ late_told ∷ [];
  flusher = step_of count.Latch 1 0 2 ∷ step_of count.Latch 1 0 4 ∷ step_of count.Latch 1 0 3 ∷ [];
  reader = step_of count.Load 1 0 7 ∷ step_of count.Load 1 0 3 ∷ [];
}

abbrev pub TwoAccount : Type 0
TwoAccount = RunAccounts plan_of_run events_of_run told_of_run report_of_run
