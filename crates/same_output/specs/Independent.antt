-- Files whose run writes what their replay writes, whatever the threads did. This project's own.
use Rattle.std.specs.Prelude.{◌≡◌, ℕ, Bool, true, false, Option, Some, List, map, AllPairs}
use Rattle.std.specs.List.{AllZip}
use Rattle.stat_defs.specs.declared.bins.Bound.{Bound}
use Rattle.stat_defs.specs.declared.configs.Config.{Config}
use Rattle.stat_defs.specs.declared.events.Event.{Event}
use Rattle.stat_defs.specs.declared.ids.Kind.{Kind}
use Rattle.stat_defs.specs.declared.ids.Kind.TheVariants.{Counter, Gauge, Histogram, Text}
use Rattle.stat_defs.specs.declared.reports.FileEnd.{FileEnd}
use Rattle.stat_defs.specs.declared.reports.Report.{Report}
use Rattle.event_script.specs.Script.{File}
use Rattle.ledger.specs.Ledger.{RunPlan, RunLedger, ReplayLedger, Ledger, Direct, plan_of}
use Rattle.flush_view.specs.Views.{ViewRules, view_rules}
use Rattle.flush_view.specs.Output.{ViewText, output}
use Rattle.ledger.specs.OneReport.{NoneFailed}
use Rattle.all_accepted.specs.Admitted.{NamedKind, Names, HasRoomForAll}

-- the order of its events is in what is shown of it
abbrev pub has_order : Kind → Bool
has_order Counter = false
has_order Gauge = true
has_order Histogram = false
has_order Text = true

-- Files whose events fit the limits and open and release no scope, and in which each gauge and each text stands in one
-- file at most; and a plan of one flush and no reading.
pub record AreIndependent (plan : RunPlan) (events : List (List Event)) : Type 0 where
  pub room : HasRoomForAll plan events
  pub apart : AllPairs (λ one other. (named : NamedKind) → has_order named.0 ≡ true
      → Names plan named one → Names plan named other → ⊥) events
  pub no_flush : plan.flushes ≡ 0
  pub no_read : plan.reads ≡ 0

-- the rules of the views of a plan's reports
abbrev pub rules_of : RunPlan → (List ℕ → List Bound) → ViewRules
rules_of plan bounds = record { names = plan.rules; bounds = bounds }

-- the files of these contents are read to these events
abbrev pub AreEvents : List (List ℕ) → List (List Event) → Type 0
AreEvents contents events = AllZip (λ content told. (end : FileEnd) × File content told end) contents events

pub record SameOutput : Type 0 where
  -- a run of independent files writes what a replay of them writes, in every format, without symbols
  pub replayed : (text : ViewText) (bounds : List ℕ → List Bound) (contents others : List (Option (List ℕ)))
      (events : List (List Event)) (plan : RunPlan) (run replay : Report)
      → AreIndependent plan events → RunLedger contents events plan run → ReplayLedger others events plan replay
      → output text (rules_of plan bounds) false run ≡ output text (rules_of plan bounds) false replay
  -- and so do two runs
  pub run_again : (text : ViewText) (bounds : List ℕ → List Bound) (contents others : List (Option (List ℕ)))
      (events : List (List Event)) (plan : RunPlan) (one other : Report)
      → AreIndependent plan events → RunLedger contents events plan one → RunLedger others events plan other
      → output text (rules_of plan bounds) false one ≡ output text (rules_of plan bounds) false other
  -- The same of a configuration and the files' contents, where no read and no opening failed.
  pub of_contents : (text : ViewText) (config : Config) (contents : List (List ℕ)) (run replay : Report)
      → ((events : List (List Event)) → AreEvents contents events → AreIndependent (plan_of config) events)
      → Ledger config (map Some contents) run → NoneFailed run
      → Direct config (map Some contents) replay → NoneFailed replay
      → output text (view_rules config) false run ≡ output text (view_rules config) false replay
