-- The state of a book as plain lists, and what is asked of it (Envoy's design note on statistics: scopes, shared
-- metrics, symbols; retired metrics and worker seats are this project's own).
use Rattle.std.specs.Prelude.{◌≡◌, ℕ, zero, suc, ◌+◌, ◌&&◌, ◌||◌, nat_eq, nat_le, not, Bool, true, false, Option, Some}
use Rattle.std.specs.Prelude.{None, List, [], ◌∷◌, map, slice_get, count_by, if◌then◌else◌}
use Rattle.std.specs.Option.{option_map_or}
use Rattle.std.specs.List.{list_all, list_any, position_from, flat_map, zip}
use Rattle.stat_defs.specs.declared.ids.Kind.{Kind}
use Rattle.stat_defs.specs.declared.ids.Kind.TheVariants.{Histogram}
use Rattle.stat_defs.specs.declared.ids.MetricId.{MetricId}
use Rattle.stat_defs.specs.declared.metrics.Life.{Life}
use Rattle.stat_defs.specs.declared.metrics.Life.TheVariants.{Gone}
use Rattle.stat_defs.specs.declared.metrics.Metric.{Metric}
use Rattle.stat_defs.specs.declared.metrics.Tagged.{Tagged}
use Rattle.stat_defs.specs.Names.{tokens}
pub use Rattle.stat_defs.specs.Keys.{same_text, same_kind, Held}

-- what a book is told of full names: whether the matcher admits one, and which tags are drawn out of it
pub record NameRules : Type 0 where
  pub admits : List ℕ → Bool
  pub tagged : List ℕ → Tagged

-- a scope; its number is its place
pub record Scope : Type 0 where
  pub label : List ℕ
  pub prefix : List ℕ
  pub live : Bool

-- a metric, and the numbers of the scopes that bear it; its own number is its place
pub record Row : Type 0 where
  pub metric : Metric
  pub bearers : List ℕ

-- a worker's seat; its tag is the number of releases that it has acknowledged
pub record Seat : Type 0 where
  pub tag : ℕ
  pub held : List Held
  pub ended : Bool

pub record State : Type 0 where
  pub scopes : List Scope
  pub metrics : List Row
  -- how many releases there were
  pub releases : ℕ
  -- those of the workers: seat 1 stands at place 0
  pub seats : List Seat

abbrev pub is_gone : Life → Bool
is_gone Gone = true
is_gone _ = false

-- the live scope of the label
abbrev pub live_in : List Scope → List ℕ → Option ℕ
live_in scopes label = position_from (λ scope. scope.live && same_text scope.label label) 0 scopes

abbrev pub live_scope : State → List ℕ → Option ℕ
live_scope s label = live_in s.scopes label

abbrev pub metrics_of : State → List Metric
metrics_of s = map (λ row. row.metric) s.metrics

-- the metric of this kind and full name that is not gone
abbrev pub known_in : List Metric → Kind → List ℕ → Option ℕ
known_in metrics kind name = position_from
    (λ metric. not (is_gone metric.life) && (same_kind kind metric.kind && same_text name metric.name)) 0 metrics

abbrev pub known : State → Kind → List ℕ → Option ℕ
known s kind name = known_in (metrics_of s) kind name

-- gone ones count too
abbrev pub histograms_in : List Metric → ℕ
histograms_in metrics = count_by (λ metric. same_kind metric.kind Histogram) metrics

abbrev pub histograms_made : State → ℕ
histograms_made s = histograms_in (metrics_of s)

-- the metrics of which this holds, in the order of their numbers
abbrev pub ids_from : (Metric → Bool) → ℕ → List Metric → List MetricId
ids_from holds id [] = []
ids_from holds id (metric ∷ metrics) = if holds metric then record { 0 = id } ∷ ids_from holds (id + 1) metrics
    else ids_from holds (id + 1) metrics

-- those that are not gone
abbrev pub names_of : List Metric → List MetricId
names_of metrics = ids_from (λ metric. not (is_gone metric.life)) 0 metrics

abbrev pub names_in : State → List MetricId
names_in s = names_of (metrics_of s)

-- the tokens of a name that is not gone, each with its symbol number
abbrev pub symbols_of : Row → List (List ℕ × ℕ)
symbols_of row = if is_gone row.metric.life then [] else zip (tokens row.metric.name) row.metric.numbers

-- the tokens of all names that are not gone
abbrev pub symbols_in : State → List (List ℕ × ℕ)
symbols_in s = flat_map symbols_of s.metrics

-- the token is in use under this number
abbrev pub Uses : State → List ℕ → ℕ → Type 0
Uses s token n = (at : ℕ) × (slice_get (symbols_in s) at ≡ Some (token, n))

-- the seat of this number, where it is a worker's
abbrev pub seat_of : State → ℕ → Option Seat
seat_of s zero = None
seat_of s (suc at) = slice_get s.seats at

-- what the seat holds
abbrev pub held_in : State → ℕ → List Held
held_in s seat = option_map_or (λ row. row.held) (seat_of s seat) []

-- every worker that has not ended has acknowledged this release
abbrev pub all_acknowledged : List Seat → ℕ → Bool
all_acknowledged seats release = list_all (λ seat. seat.ended || nat_le release seat.tag) seats

abbrev pub bears : ℕ → Row → Bool
bears scope row = list_any (nat_eq scope) row.bearers
