-- Files all of whose events are accepted that name an admitted metric (Envoy's design note on statistics: scopes and
-- full names; the limits are this project's own).
use Rattle.std.specs.Prelude.{◌≡◌, ◌==◌, ◌&&◌, ◌≤◌, ℕ, if◌then◌else◌, Bool, false, Option, Some, None, IsSome, option_map, option_and_then, find, List, length, count_by, slice_get, Contains}
use Rattle.std.specs.Option.{option_map_or}
use Rattle.std.specs.List.{zip, AllByRecursion}
use Rattle.stat_defs.specs.declared.configs.ScopeSpec.{ScopeSpec}
use Rattle.stat_defs.specs.declared.events.Event.{Event}
use Rattle.stat_defs.specs.declared.events.Key.{Key}
use Rattle.stat_defs.specs.declared.history.Verdict.{Verdict}
use Rattle.stat_defs.specs.declared.history.Verdict.TheVariants.{Accepted}
use Rattle.stat_defs.specs.declared.ids.MetricId.{MetricId}
use Rattle.stat_defs.specs.declared.ids.Kind.{Kind}
use Rattle.stat_defs.specs.declared.ids.Kind.TheVariants.{Histogram}
use Rattle.stat_defs.specs.declared.reports.Report.{Report}
use Rattle.stat_defs.specs.Keys.{same_text, same_kind}
use Rattle.stat_defs.specs.Names.{full}
use Rattle.book_state.specs.declared.limits.TheConstants.{MAX_METRICS, MAX_HISTOGRAMS}
use Rattle.book_state.specs.State.{State}
use Rattle.book_state.specs.Log.{replay}
use Rattle.book_state.specs.Follows.{event_key}
use Rattle.ledger.specs.Ledger.{RunPlan, RunLedger, ReplayLedger}

-- the prefix of the scope that the configuration opens under a label
abbrev pub prefix_under : List ScopeSpec → List ℕ → Option (List ℕ)
prefix_under scopes label = option_map (λ scope. scope.prefix) (find (λ scope. same_text scope.label label) scopes)

-- a kind and a full name
abbrev pub NamedKind : Type 0
NamedKind = Kind × List ℕ

-- what a key means under the prefix of its scope, where the full name is admitted
abbrev pub named_under : RunPlan → Key → List ℕ → Option NamedKind
named_under plan key prefix =
    if plan.rules.admits (full prefix key.name) then Some (key.kind, full prefix key.name) else None

-- what a key means, where its label is opened
abbrev pub key_named : RunPlan → Key → Option NamedKind
key_named plan key = option_and_then (named_under plan key) (prefix_under plan.scopes key.label)

-- what an event names
abbrev pub named_by : RunPlan → Event → Option NamedKind
named_by plan e = option_and_then (key_named plan) (event_key e)

abbrev pub Names : RunPlan → NamedKind → List Event → Type 0
Names plan named file = (e : Event) × Contains file e × (named_by plan e ≡ Some named)

-- The files open and release no scope, and all that their events name fits the limits: `names` is a list that has each
-- admitted kind and full name.
pub record HasRoomForAll (plan : RunPlan) (events : List (List Event)) : Type 0 where
  pub no_scopes : AllByRecursion (λ file. AllByRecursion (λ e. IsSome (event_key e)) file) events
  pub names : List NamedKind
  pub all_named : AllByRecursion (λ file. (named : NamedKind) → Names plan named file → Contains names named) events
  pub few : length names ≤ MAX_METRICS
  pub few_histograms : count_by (λ named. same_kind named.0 Histogram) names ≤ MAX_HISTOGRAMS

abbrev pub IsAccepted : Verdict → Type 0
IsAccepted v = (id : MetricId) × (v ≡ Accepted id)

-- each event of the files that names a metric is accepted
abbrev pub AreAccepted : RunPlan → List (List Event) → Report → Type 0
AreAccepted plan events report =
    AllByRecursion (λ file. AllByRecursion (λ told. IsSome (named_by plan told.0) → IsAccepted told.1)
    (zip file.0 file.1)) (zip events report.verdicts)

-- Where there is room for all, a run and a replay accept each event that names a metric.
pub record AllAccepted : Type 0 where
  pub run : (contents : List (Option (List ℕ))) (events : List (List Event)) (plan : RunPlan) (report : Report)
      → HasRoomForAll plan events → RunLedger contents events plan report → AreAccepted plan events report
  pub replay : (contents : List (Option (List ℕ))) (events : List (List Event)) (plan : RunPlan) (report : Report)
      → HasRoomForAll plan events → ReplayLedger contents events plan report → AreAccepted plan events report

-- the kind and the full name of the metric of this number
abbrev pub named_at : State → ℕ → Option NamedKind
named_at s id = option_map (λ row. (row.metric.kind, row.metric.name)) (slice_get s.metrics id)

-- Each accepted event of a run names the metric whose number it was given.
abbrev pub AcceptedNamed : Type 0
AcceptedNamed = (contents : List (Option (List ℕ))) (events : List (List Event)) (plan : RunPlan) (run : Report)
    → HasRoomForAll plan events → RunLedger contents events plan run
    → AllByRecursion (λ file. AllByRecursion (λ told. (id : MetricId) → told.1 ≡ Accepted id
    → named_at (replay plan.rules (length run.verdicts) run.log) id.0 ≡ named_by plan told.0) (zip file.0 file.1))
    (zip events run.verdicts)

-- the verdict gave this number
abbrev pub is_given : ℕ → Verdict → Bool
is_given id (Accepted given) = given.0 == id
is_given id _ = false

-- the event names this
abbrev pub names_it : RunPlan → NamedKind → Event → Bool
names_it plan n e = option_map_or (λ m. same_kind n.0 m.0 && same_text n.1 m.1) (named_by plan e) false

-- An event of a run was given a metric's number exactly where it names the metric. So the units, moves and recordings of
-- a number are those of a name, which is the same in every run.
abbrev pub NumbersOfNames : Type 0
NumbersOfNames = (contents : List (Option (List ℕ))) (events : List (List Event)) (plan : RunPlan) (run : Report)
    (id : ℕ) (n : NamedKind)
    → HasRoomForAll plan events → RunLedger contents events plan run
    → named_at (replay plan.rules (length run.verdicts) run.log) id ≡ Some n
    → AllByRecursion (λ file. AllByRecursion (λ told. is_given id told.1 ≡ names_it plan n told.0) (zip file.0 file.1))
    (zip events run.verdicts)
