-- The ledger of a run, in five parts, and the form that it has where one worker replays all files. This project's
-- own.
use Rattle.std.specs.Prelude.{◌≡◌, ℕ, ◌+◌, not, true, Option, List, length, map, count_by, drop, AllPairs}
use Rattle.std.specs.List.{zip, list_all, flat_map, AllZip, AllByRecursion}
use Rattle.std.specs.List.Sorted.{IsStrictlyIncreasing, IsNonDecreasing}
use Rattle.stat_defs.specs.declared.ids.Kind.TheVariants.{Counter}
use Rattle.stat_defs.specs.declared.configs.Config.{Config}
use Rattle.stat_defs.specs.declared.configs.ScopeSpec.{ScopeSpec}
use Rattle.stat_defs.specs.declared.events.Event.{Event}
use Rattle.stat_defs.specs.declared.history.Entry.{Entry}
use Rattle.stat_defs.specs.declared.reports.FileEnd.{FileEnd}
use Rattle.stat_defs.specs.declared.reports.FileEnd.TheVariants as file
use Rattle.stat_defs.specs.declared.reports.Report.{Report}
use Rattle.stat_defs.specs.declared.reports.Reported.{Reported}
use Rattle.event_script.specs.FileEvents.{AreEventsOf}
use Rattle.book_state.specs.State.{NameRules}
use Rattle.book_state.specs.Log.{is_sweep, replay, Legal}
use Rattle.book_state.specs.SeatLaws.{is_end}
use Rattle.book_state.specs.Follows.{Follows}
use Rattle.name_changes.specs.Changes.{names_in_log}
use Rattle.stat_book.specs.Calls.{name_rules}
use Rattle.ledger.specs.Lists.{EachNumbered, OfLast}
use Rattle.ledger.specs.Work.{Work, events_in, verdicts_in, apart, together, units_of, recordings}
use Rattle.ledger.specs.Gauges.{GaugeFits}
use Rattle.ledger.specs.Segments.{segments}
use Rattle.ledger.specs.Flushes.{ids_made, FitAll, flushed}
use Rattle.ledger.specs.Readings.{ReadingFits, NoneFalls}

-- what a run was asked for: how its book reads full names, its configured scopes, how many flushes come before the
-- last, and how many readings there are
pub record RunPlan : Type 0 where
  pub rules : NameRules
  pub scopes : List ScopeSpec
  pub flushes : ℕ
  pub reads : ℕ

-- bytes are counted at a read fault alone
abbrev pub TakenAtFault : FileEnd → ℕ → Type 0
TakenAtFault file.ReadFault taken = Unit {0}
TakenAtFault _ taken = taken ≡ 0

-- 1. Each file was read to its end, or to the fault that ended it, and each of its events has a verdict. The content
-- of a file may be told or not.
pub record AreRead (contents : List (Option (List ℕ))) (events : List (List Event)) (report : Report) : Type 0 where
  pub an_end_each : length report.ends ≡ length contents
  pub verdicts_each : length report.verdicts ≡ length contents
  pub a_verdict_each : map length report.verdicts ≡ map length events
  pub read : AllZip (λ content file. AreEventsOf content file.0.end file.0.taken file.1)
      contents (zip report.ends events)
  pub counted : AllByRecursion (λ end. TakenAtFault end.end end.taken) report.ends

-- 2. The log is legal, so no symbol number is drawn again while a live name or a worker's cache has it, and each worker's
-- entries follow its events.
pub record HasHistory (plan : RunPlan) (workers : List Work) (report : Report) : Type 0 where
  pub legal : Legal plan.rules plan.scopes (length workers) report.log
  pub follows : EachNumbered (λ seat work.
      Follows plan.rules (length workers) seat (events_in work) (verdicts_in work) report.log) 1 workers

-- 3. There are the flushes that were asked for and one more, each with a sweep of its own, and all workers have ended
-- before the last sweep.
pub record AreSwept (plan : RunPlan) (report : Report) : Type 0 where
  pub number : length report.flushes ≡ plan.flushes + 1
  pub sweeps : count_by (λ (e : Entry). is_sweep e.call) report.log ≡ length report.flushes
  pub rising : IsStrictlyIncreasing (map (λ flush. flush.at) report.flushes)
  pub ended : OfLast (λ last. list_all (λ (e : Entry). not (is_end e.call)) (drop last.at report.log) ≡ true)
      report.flushes

-- 4. The flushes account for all that was accepted, each unit and each value once: what a counter's flushes have latched
-- so far and what is pending, which later flushes latch, are together its accepted units, and the last one leaves nothing
-- pending. Each value stands in one segment of its worker, and so is merged once, by the flush that took it.
pub record Account (plan : RunPlan) (workers : List Work) (report : Report) : Type 0 where
  pub flushes : FitAll plan.rules report.log workers report.flushes
  pub units : AllByRecursion (λ id. flushed id.0 report.flushes ≡ units_of id.0 workers)
      (ids_made Counter (replay plan.rules (length workers) report.log))
  pub values : EachNumbered (λ w work.
      flat_map (λ segment. segment) (segments w work report.flushes) ≡ recordings work) 1 workers
  pub words : OfLast (λ last. AllByRecursion (λ reading. GaugeFits reading.id.0 reading.word workers) last.gauges)
      report.flushes

-- 5. There are the readings that were asked for, and none shows less than an earlier one.
pub record AreShown (plan : RunPlan) (workers : List Work) (report : Report) : Type 0 where
  pub number : length report.reads ≡ plan.reads
  pub never_falls : IsNonDecreasing (map (λ read. read.at) report.reads)
  pub each : AllByRecursion (ReadingFits plan.rules report.log workers) report.reads
  pub rising : AllPairs NoneFalls report.reads

-- the report of workers that did this work, which the files with these contents gave
pub record IsReportOf (contents : List (Option (List ℕ))) (events : List (List Event)) (plan : RunPlan)
    (workers : List Work) (report : Report) : Type 0 where
  pub read : AreRead contents events report
  pub history : HasHistory plan workers report
  pub swept : AreSwept plan report
  pub account : Account plan workers report
  pub shown : AreShown plan workers report

-- each file has a worker of its own
abbrev pub RunLedger : List (Option (List ℕ)) → List (List Event) → RunPlan → Report → Type 0
RunLedger contents events plan report = IsReportOf contents events plan (apart events report.verdicts) report

-- one flush and no reading
abbrev pub last_flush_alone : RunPlan → RunPlan
last_flush_alone plan = record plan { flushes = 0; reads = 0 }

-- one worker has all files, one after another, and the flush after its end is the only one
abbrev pub ReplayLedger : List (Option (List ℕ)) → List (List Event) → RunPlan → Report → Type 0
ReplayLedger contents events plan report =
    IsReportOf contents events (last_flush_alone plan) (together events report.verdicts) report

-- what a configuration asks for
abbrev pub plan_of : Config → RunPlan
plan_of config = record {
  rules = name_rules config.matcher config.tags;
  scopes = config.scopes;
  flushes = config.flushes;
  reads = config.reads;
}

-- the report of a run of this configuration over these files
pub record Ledger (config : Config) (contents : List (Option (List ℕ))) (report : Report) : Type 0 where
  pub events : List (List Event)
  pub report_of : RunLedger contents events (plan_of config) report

-- the report of a replay of these files; where no file ended by a fault, it is determined but for the counts of faults
pub record Direct (config : Config) (contents : List (Option (List ℕ))) (report : Report) : Type 0 where
  pub events : List (List Event)
  pub report_of : ReplayLedger contents events (plan_of config) report

-- the names that a report came with are those of its log, which so many workers wrote
abbrev pub HasNames : NameRules → ℕ → Reported → Type 0
HasNames rules workers reported = reported.names ≡ names_in_log rules workers reported.report.log
