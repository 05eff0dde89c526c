-- Why a replay has one report only: before its last sweep no number is free. This project's own.
use Rattle.std.specs.Prelude.{◌≡◌, ◌<◌, ◌≤◌, ℕ, not, Bool, true, false, Option, Some, List, [], ◌∷◌, map, slice_get}
use Rattle.std.specs.List.{list_all, flat_map, AllByRecursion}
use Rattle.stat_defs.specs.declared.configs.Config.{Config}
use Rattle.stat_defs.specs.declared.events.Event.{Event}
use Rattle.stat_defs.specs.declared.history.Call.{Call}
use Rattle.stat_defs.specs.declared.history.Reply.{Reply}
use Rattle.stat_defs.specs.declared.history.Verdict.{Verdict}
use Rattle.stat_defs.specs.declared.reports.FileEnd.{FileEnd}
use Rattle.stat_defs.specs.declared.reports.FileEnd.TheVariants as file
use Rattle.stat_defs.specs.declared.reports.WorkerEnd.{WorkerEnd}
use Rattle.stat_defs.specs.declared.reports.Report.{Report}
use Rattle.symbol_table.specs.Drawing.{InUse}
use Rattle.book_state.specs.State.{NameRules, Row, State, is_gone, symbols_of}
use Rattle.book_state.specs.Step.{effect, Allowed}
use Rattle.book_state.specs.Log.{empty, is_sweep}
use Rattle.book_state.specs.Follows.{Own, MakesAcked}
use Rattle.ledger.specs.Ledger.{RunPlan, ReplayLedger, Direct}

abbrev pub is_not_gone : Row → Bool
is_not_gone row = not (is_gone row.metric.life)

-- the token is in use under this number, where these metrics were made
abbrev pub UsesIn : List Row → List ℕ → ℕ → Type 0
UsesIn metrics token n = (at : ℕ) × (slice_get (flat_map symbols_of metrics) at ≡ Some (token, n))

-- the numbers in use are those from 1 on up to some number
pub record AreDense (uses : List ℕ → ℕ → Type 0) : Type 0 where
  pub top : ℕ
  pub within : (n : ℕ) → InUse uses n → (0 < n) × (n ≤ top)
  pub all : (n : ℕ) → 0 < n → n ≤ top → InUse uses n

-- no metric is gone, and no number is free
pub record IsPacked (metrics : List Row) : Type 0 where
  pub left : list_all is_not_gone metrics ≡ true
  pub dense : AreDense (UsesIn metrics)

-- the entries were made one after another from this state on, each as a step
abbrev pub AreSteps : NameRules → ℕ → State → List Own → Type 0
AreSteps rules seat s [] = Unit {0}
AreSteps rules seat s (o ∷ made) =
    Allowed rules seat o.call o.reply s
    × (o.after ≡ effect rules seat o.call o.reply s)
    × AreSteps rules seat o.after made

-- where no number is free, a call has one reply, and stays so unless it is a sweep
pub record OneReply : Type 0 where
  pub reply : (rules : NameRules) (s : State) (seat : ℕ) (c : Call) (one other : Reply) → IsPacked s.metrics
      → Allowed rules seat c one s → Allowed rules seat c other s → one ≡ other
  pub first : (workers : ℕ) → IsPacked (empty workers).metrics
  pub packed : (rules : NameRules) (s : State) (seat : ℕ) (c : Call) (r : Reply) → IsPacked s.metrics
      → is_sweep c ≡ false → Allowed rules seat c r s → IsPacked (effect rules seat c r s).metrics

-- where no number is free, an event has one verdict and makes one list of entries: an acknowledgement that need not
-- stand first can't
abbrev pub OneWay : Type 0
OneWay = (rules : NameRules) (s : State) (seat : ℕ) (e : Event) (one other : Verdict) (made others : List Own)
    → IsPacked s.metrics
    → MakesAcked seat s e one made → AreSteps rules seat s made
    → MakesAcked seat s e other others → AreSteps rules seat s others
    → (one ≡ other) × (made ≡ others)

-- a report without the ends of its files, and without the counts of faults in them
abbrev pub without_ends : Report → Report
without_ends report = record report { ends = [] }

abbrev pub without_count : WorkerEnd → WorkerEnd
without_count end = record end { faults_before = 0; faults_after = 0 }

abbrev pub without_counts : Report → Report
without_counts report = record report { ends = map without_count report.ends }

-- the events of its files determine the report of a replay, but for the ends of the files
abbrev pub OneReport : Type 0
OneReport = (contents others : List (Option (List ℕ))) (events : List (List Event)) (plan : RunPlan)
    (one other : Report) → ReplayLedger contents events plan one → ReplayLedger others events plan other
    → without_ends one ≡ without_ends other

-- a file was read to an end that its content alone decides
abbrev pub NoFault : FileEnd → Type 0
NoFault file.ReadFault = ⊥
NoFault file.NotOpened = ⊥
NoFault _ = Unit {0}

abbrev pub NoneFailed : Report → Type 0
NoneFailed report = AllByRecursion (λ end. NoFault end.end) report.ends

-- where no read and no opening failed, the contents of its files determine the report of a replay, but for the counts
-- of faults
abbrev pub OneDirect : Type 0
OneDirect = (config : Config) (contents : List (List ℕ)) (one other : Report)
    → Direct config (map Some contents) one → NoneFailed one
    → Direct config (map Some contents) other → NoneFailed other
    → without_counts one ≡ without_counts other
