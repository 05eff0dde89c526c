-- Worked reports, computed from the definitions. This project's own.
use Rattle.std.specs.Prelude.{◌≡◌, ◌⊎◌, ◌≤◌, ℕ, ◌-◌, ◌^◌, pos, Option, Some, List, [], ◌∷◌, ◌++◌, map, take, codes}
use Rattle.stat_defs.specs.declared.ids.Kind.TheVariants.{Counter, Gauge, Histogram, Text}
use Rattle.stat_defs.specs.declared.ids.Mode.TheVariants.{Uninit, Accumulate}
use Rattle.stat_defs.specs.declared.events.Key.{Key}
use Rattle.stat_defs.specs.declared.events.GaugeOp.TheVariants.{Add, Sub, Set}
use Rattle.stat_defs.specs.declared.events.Event.{Event}
use Rattle.stat_defs.specs.declared.events.Event.TheVariants as event
use Rattle.stat_defs.specs.declared.history.Verdict.{Verdict}
use Rattle.stat_defs.specs.declared.history.Verdict.TheVariants as verdict
use Rattle.stat_defs.specs.declared.history.Call.TheVariants as call
use Rattle.stat_defs.specs.declared.history.Reply.TheVariants as reply
use Rattle.stat_defs.specs.declared.history.Entry.{Entry}
use Rattle.stat_defs.specs.declared.reports.Delta.{Delta}
use Rattle.stat_defs.specs.declared.reports.Reading.{Reading}
use Rattle.stat_defs.specs.declared.reports.Part.{Part}
use Rattle.stat_defs.specs.declared.reports.FlushRecord.{FlushRecord}
use Rattle.stat_defs.specs.declared.reports.FileEnd.TheVariants as file
use Rattle.stat_defs.specs.declared.reports.WorkerEnd.{WorkerEnd}
use Rattle.stat_defs.specs.declared.reports.Report.{Report}
use Rattle.event_script.specs.Grammar.{lines_for}
use Rattle.book_state.specs.Log.{openings, replay}
use Rattle.book_state.specs.Worked.{plain, root_alone, ends, sweeps, shared_verdicts, shared, released_verdicts}
use Rattle.book_state.specs.Worked.{swept_last}
use Rattle.ledger.specs.Work.{Work, apart}
use Rattle.ledger.specs.Gauges.{IsLastWord}
use Rattle.ledger.specs.Ledger.{RunPlan, AreRead, HasHistory, AreSwept, Account, AreShown, RunLedger, ReplayLedger}
use Rattle.ledger.specs.OneReport.{without_ends}

-- one flush, and no reading
abbrev pub plain_plan : RunPlan
plain_plan = record { rules = plain; scopes = root_alone; flushes = 0; reads = 0 }

-- a file of the lines of these events
abbrev pub file_of : List Event → Option (List ℕ)
file_of events = Some (lines_for events)

abbrev pub whole_end : WorkerEnd
whole_end = record { end = file.Whole; taken = 0; faults_before = 0; faults_after = 0 }

-- the report of one file with one flush
abbrev pub report_of : List Verdict → List Entry → FlushRecord → Report
report_of verdicts log flush = record {
  verdicts = verdicts ∷ [];
  flushes = flush ∷ [];
  log = log;
  reads = [];
  ends = whole_end ∷ [];
}

abbrev pub IsWorkedReplay : List Event → Report → Type 0
IsWorkedReplay events report = ReplayLedger (file_of events ∷ []) (events ∷ []) plain_plan report

-- the report of a file of these events is that of a run and that of a replay
pub record IsReported (events : List Event) (report : Report) : Type 0 where
  pub run : RunLedger (file_of events ∷ []) (events ∷ []) plain_plan report
  pub replay : IsWorkedReplay events report
  -- and a replay has no other, but for the ends of the files
  pub only : (other : Report) → IsWorkedReplay events other → without_ends report ≡ without_ends other

abbrev pub accepted : ℕ → Verdict
accepted id = verdict.Accepted (record { 0 = id })

abbrev pub delta : ℕ → ℕ → Delta
delta id n = record { id = record { 0 = id }; n = n }

abbrev pub reading : ℕ → ℕ → Reading
reading id word = record { id = record { 0 = id }; word = word }

-- the log of one worker: what it did behind the opening of `root`, its end, and the last sweep, which makes so many
-- gone
abbrev pub log_with : List Entry → ℕ → List Entry
log_with own gone = openings 0 root_alone ++ (own ++ ends 1 ∷ sweeps gone ∷ [])

-- a worker makes this metric, whose name has one token, and it gets this number; or finds it
abbrev pub makes_key : ℕ → Key → ℕ → ℕ → Entry
makes_key seat key id number = record {
  seat = seat;
  call = call.Find key;
  reply = reply.Made (record { 0 = id }) (number ∷ []);
}

abbrev pub finds_key : ℕ → Key → ℕ → Entry
finds_key seat key id = record { seat = seat; call = call.Find key; reply = reply.Found (record { 0 = id }) }

abbrev pub counter_a : Key
counter_a = record { label = codes "root"; kind = Counter; mode = Uninit; name = codes "a" }

abbrev pub gauge_g : Key
gauge_g = record { label = codes "root"; kind = Gauge; mode = Accumulate; name = codes "g" }

abbrev pub histogram_h : Key
histogram_h = record { label = codes "root"; kind = Histogram; mode = Uninit; name = codes "h" }

abbrev pub readout_t : Key
readout_t = record { label = codes "root"; kind = Text; mode = Uninit; name = codes "t" }

-- two increments of one counter
abbrev pub increments : List Event
increments = event.Inc (codes "root") (codes "a") 3 ∷ event.Inc (codes "root") (codes "a") 4 ∷ []

abbrev pub both_accepted : List Verdict
both_accepted = accepted 0 ∷ accepted 0 ∷ []

abbrev pub counter_flush : ℕ → ℕ → FlushRecord
counter_flush at units = record { at = at; deltas = delta 0 units ∷ []; gauges = []; parts = [] }

abbrev pub of_increments : Report
of_increments = report_of both_accepted (log_with (makes_key 1 counter_a 0 1 ∷ []) 0) (counter_flush 3 7)

-- a gauge goes below 0, is set to the greatest signed number, and goes past it
abbrev pub gauge_moves : List Event
gauge_moves = event.Gauge (codes "root") (codes "g") Accumulate Sub 5
    ∷ event.Gauge (codes "root") (codes "g") Accumulate Set (2 ^ 63 - 1)
    ∷ event.Gauge (codes "root") (codes "g") Accumulate Add 1
    ∷ []

abbrev pub gauge_flush : ℕ → FlushRecord
gauge_flush word = record { at = 3; deltas = []; gauges = reading 0 word ∷ []; parts = [] }

abbrev pub subtraction : List Event
subtraction = event.Gauge (codes "root") (codes "g") Accumulate Sub 5 ∷ []

abbrev pub gauge_log : List Entry
gauge_log = log_with (makes_key 1 gauge_g 0 1 ∷ []) 0

abbrev pub of_subtraction : Report
of_subtraction = report_of (accepted 0 ∷ []) gauge_log (gauge_flush (2 ^ 64 - 5))

abbrev pub of_gauge_moves : Report
of_gauge_moves = report_of (accepted 0 ∷ accepted 0 ∷ accepted 0 ∷ []) gauge_log (gauge_flush (2 ^ 63))

-- a counter whose scope is released is gone after the last flush, which has its units
abbrev pub of_released : Report
of_released = report_of released_verdicts swept_last (counter_flush 7 1)

-- two scopes with one prefix share a counter, of which one is released
abbrev pub of_shared : Report
of_shared = report_of shared_verdicts shared (counter_flush 8 7)

-- a value is recorded, and a text is set twice
abbrev pub values_and_texts : List Event
values_and_texts = event.Rec (codes "root") (codes "h") 7
    ∷ event.SetText (codes "root") (codes "t") (codes "on")
    ∷ event.SetText (codes "root") (codes "t") (codes "all off")
    ∷ []

abbrev pub sets_text : List ℕ → Entry
sets_text text = record { seat = 1; call = call.SetText (record { 0 = 1 }) text; reply = reply.TextSet }

abbrev pub readout_log : List Entry
readout_log = log_with (
    makes_key 1 histogram_h 0 1
    ∷ makes_key 1 readout_t 1 2
    ∷ sets_text (codes "on")
    ∷ sets_text (codes "all off")
    ∷ []) 0

-- 7 is in the bin (70, 0)
abbrev pub part_of_7 : Part
part_of_7 = record {
  worker = 1;
  id = record { 0 = 0 };
  bins = record { bin = record { val = 70; exp = pos 0 }; count = 1 } ∷ [];
}

abbrev pub of_values_and_texts : Report
of_values_and_texts = report_of (accepted 0 ∷ accepted 1 ∷ accepted 1 ∷ []) readout_log
    (record { at = 6; deltas = []; gauges = []; parts = part_of_7 ∷ [] })

pub record ValuesAndTexts : Type 0 where
  pub reported : IsReported values_and_texts of_values_and_texts
  -- what the readouts hold at the last sweep
  pub texts : map (λ row. row.metric.text) (replay plain 1 (take 6 readout_log)).metrics ≡ [] ∷ codes "all off" ∷ []

-- the parts of the ledger of a report of the two increments
abbrev pub Read : Report → Type 0
Read report = AreRead (file_of increments ∷ []) (increments ∷ []) report

abbrev pub workers : Report → List Work
workers report = apart (increments ∷ []) report.verdicts

abbrev pub History : RunPlan → Report → Type 0
History plan report = HasHistory plan (workers report) report

abbrev pub Swept : RunPlan → Report → Type 0
Swept plan report = AreSwept plan report

abbrev pub Accounted : RunPlan → Report → Type 0
Accounted plan report = Account plan (workers report) report

abbrev pub Shown : RunPlan → Report → Type 0
Shown plan report = AreShown plan (workers report) report

-- no end of the file
abbrev pub without_end : Report
without_end = record of_increments { ends = [] }

-- the token gets number 2, though 1 is free
abbrev pub number_passed_over : Report
number_passed_over = report_of both_accepted (log_with (makes_key 1 counter_a 0 2 ∷ []) 0) (counter_flush 3 7)

-- the worker ends behind the last sweep
abbrev pub ended_late : Report
ended_late = report_of both_accepted
    (openings 0 root_alone ++ makes_key 1 counter_a 0 1 ∷ sweeps 0 ∷ ends 1 ∷ []) (counter_flush 2 7)

-- a unit is lost
abbrev pub unit_lost : Report
unit_lost = report_of both_accepted (log_with (makes_key 1 counter_a 0 1 ∷ []) 0) (counter_flush 3 6)

-- a run with one reading, and one of them with a value above the units
abbrev pub plan_of_reading : RunPlan
plan_of_reading = record plain_plan { reads = 1 }

abbrev pub with_reading : ℕ → Report
with_reading units = record of_increments {
  reads = record { at = 2; counters = reading 0 units ∷ []; gauges = [] } ∷ [];
}

pub record FirstAloneBroken (plan : RunPlan) (report : Report) : Type 0 where
  pub not_read : Read report → ⊥
  pub history : History plan report
  pub swept : Swept plan report
  pub account : Accounted plan report
  pub shown : Shown plan report

pub record SecondAloneBroken (plan : RunPlan) (report : Report) : Type 0 where
  pub read : Read report
  pub no_history : History plan report → ⊥
  pub swept : Swept plan report
  pub account : Accounted plan report
  pub shown : Shown plan report

pub record ThirdAloneBroken (plan : RunPlan) (report : Report) : Type 0 where
  pub read : Read report
  pub history : History plan report
  pub not_swept : Swept plan report → ⊥
  pub account : Accounted plan report
  pub shown : Shown plan report

pub record FourthAloneBroken (plan : RunPlan) (report : Report) : Type 0 where
  pub read : Read report
  pub history : History plan report
  pub swept : Swept plan report
  pub no_account : Accounted plan report → ⊥
  pub shown : Shown plan report

pub record FifthAloneBroken (plan : RunPlan) (report : Report) : Type 0 where
  pub read : Read report
  pub history : History plan report
  pub swept : Swept plan report
  pub account : Accounted plan report
  pub not_shown : Shown plan report → ⊥

-- two workers, one flush besides the last, and one reading
abbrev pub plan_of_two : RunPlan
plan_of_two = record { rules = plain; scopes = root_alone; flushes = 1; reads = 1 }

abbrev pub sets : ℕ → Event
sets n = event.Gauge (codes "root") (codes "g") Accumulate Set n

abbrev pub first_of_two : List Event
first_of_two = event.Rec (codes "root") (codes "h") 7 ∷ event.Inc (codes "root") (codes "a") 3 ∷ sets 5 ∷ []

abbrev pub second_of_two : List Event
second_of_two = event.Inc (codes "root") (codes "a") 4 ∷ sets 9 ∷ []

abbrev pub log_of_two : List Entry
log_of_two = openings 0 root_alone
    ++ makes_key 1 histogram_h 0 1
    ∷ sweeps 0
    ∷ makes_key 1 counter_a 1 2
    ∷ finds_key 2 counter_a 1
    ∷ makes_key 1 gauge_g 2 3
    ∷ finds_key 2 gauge_g 2
    ∷ ends 2
    ∷ ends 1
    ∷ sweeps 0
    ∷ []

-- the first flush has the value, the last has all units and a word that a worker set last
abbrev pub of_two : ℕ → ℕ → Report
of_two word shown = record {
  verdicts = (accepted 0 ∷ accepted 1 ∷ accepted 2 ∷ []) ∷ (accepted 1 ∷ accepted 2 ∷ []) ∷ [];
  flushes = record { at = 2; deltas = []; gauges = []; parts = part_of_7 ∷ [] }
      ∷ record { at = 9; deltas = delta 1 7 ∷ []; gauges = reading 2 word ∷ []; parts = [] }
      ∷ [];
  log = log_of_two;
  reads = record { at = 5; counters = reading 1 shown ∷ []; gauges = [] } ∷ [];
  ends = whole_end ∷ whole_end ∷ [];
}

abbrev pub IsLedgerOfTwo : Report → Type 0
IsLedgerOfTwo report = RunLedger (file_of first_of_two ∷ file_of second_of_two ∷ [])
    (first_of_two ∷ second_of_two ∷ []) plan_of_two report

pub record TwoWorkers : Type 0 where
  -- the word is one of the two last sets, and no other number
  pub first_set_last : IsLedgerOfTwo (of_two 5 3)
  pub second_set_last : IsLedgerOfTwo (of_two 9 0)
  pub no_other_word : (word shown : ℕ) → IsLedgerOfTwo (of_two word shown) → (word ≡ 5) ⊎ (word ≡ 9)
  -- a reading shows at most all units
  pub not_above : (word shown : ℕ) → IsLedgerOfTwo (of_two word shown) → shown ≤ 7

-- what is told of a gauge's word where several workers move it
pub record GaugeCases : Type 0 where
  -- 3 added by one and 5 subtracted by another
  pub sum : (word : ℕ) → IsLastWord (((Add, 3) ∷ []) ∷ ((Sub, 5) ∷ []) ∷ []) word → word ≡ 2 ^ 64 - 2
  -- one worker's fold
  pub alone : (word : ℕ) → IsLastWord (((Add, 3) ∷ (Set, 10) ∷ (Sub, 4) ∷ []) ∷ []) word → word ≡ 6
  -- a set by one and an addition by another: nothing is told
  pub nothing : (word : ℕ) → IsLastWord (((Set, 10) ∷ []) ∷ ((Add, 3) ∷ []) ∷ []) word
  -- no worker moves it
  pub none : (word : ℕ) → IsLastWord [] word → word ≡ 0
