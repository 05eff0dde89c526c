-- What every legal log keeps. This project's own.
use Rattle.std.specs.Prelude.{◌≡◌, ℕ, ◌<◌, Some, List, ◌++◌, take, length, slice_get, All}
use Rattle.std.specs.Option.{IsSomeAnd}
use Rattle.stat_defs.specs.declared.configs.ScopeSpec.{ScopeSpec}
use Rattle.stat_defs.specs.declared.events.Key.{Key}
use Rattle.stat_defs.specs.declared.history.Entry.{Entry}
use Rattle.stat_defs.specs.declared.history.Verdict.{Verdict}
use Rattle.stat_defs.specs.declared.history.Verdict.TheVariants.{Accepted}
use Rattle.book_state.specs.declared.limits.TheConstants.{MAX_METRICS}
use Rattle.book_state.specs.State.{NameRules, Row, Seat, State}
use Rattle.book_state.specs.Log.{replay, Legal}
use Rattle.book_state.specs.Safe.{IsSafe, SymbolsSafe}

-- an accepted verdict names a metric that was made, of the key's kind
abbrev pub NamesMetric : State → Key → Verdict → Type 0
NamesMetric s key (Accepted id) = (id.0 < length s.metrics) × (id.0 < MAX_METRICS)
    × IsSomeAnd (slice_get s.metrics id.0) (λ row. row.metric.kind ≡ key.kind)
NamesMetric s key _ = Unit {0}

-- each verdict that a seat holds does
abbrev pub HoldsMetrics : State → Type 0
HoldsMetrics s = All (λ (seat : Seat). All (λ h. NamesMetric s h.key h.verdict) seat.held) s.seats

-- what is true of a state after every legal log, and after each beginning of one
abbrev pub AfterLegal : (State → Type 0) → Type 0
AfterLegal Is = (rules : NameRules) (scopes : List ScopeSpec) (workers : ℕ) (log : List Entry)
    → Legal rules scopes workers log
    → Is (replay rules workers log) × ((k : ℕ) → Is (replay rules workers (take k log)))

pub record LegalIsSafe : Type 0 where
  pub symbols : (rules : NameRules) (scopes : List ScopeSpec) (workers : ℕ) (log : List Entry)
      → Legal rules scopes workers log → SymbolsSafe rules workers log
  pub safe : AfterLegal IsSafe
  pub metrics : AfterLegal HoldsMetrics

-- what stays of a metric
pub record IsSameMetric (row row' : Row) : Type 0 where
  pub name : row'.metric.name ≡ row.metric.name
  pub kind : row'.metric.kind ≡ row.metric.kind
  pub numbers : row'.metric.numbers ≡ row.metric.numbers
  pub tagged : row'.metric.tagged ≡ row.metric.tagged

-- in any log, legal or not
abbrev pub MetricsStay : Type 0
MetricsStay = (rules : NameRules) (workers : ℕ) (log more : List Entry) (id : ℕ) (row : Row)
    → slice_get (replay rules workers log).metrics id ≡ Some row
    → IsSomeAnd (slice_get (replay rules workers (log ++ more)).metrics id) (IsSameMetric row)
