-- The metrics as they are stored: of each metric's bearers their number. This project's own.
use Rattle.std.specs.Prelude.{◌≡◌, ℕ, ◌+◌, ◌-◌, nat_le, if◌then◌else◌, Bool, true, false, Option, None, Some, List, []}
use Rattle.std.specs.Prelude.{◌∷◌, map, filter, slice_get, length}
use Rattle.std.specs.Option.{option_map_or}
use Rattle.stat_defs.specs.declared.ids.MetricId.{MetricId}
use Rattle.stat_defs.specs.declared.ids.Mode.{Mode}
use Rattle.stat_defs.specs.declared.metrics.Life.{Life}
use Rattle.stat_defs.specs.declared.metrics.Life.TheVariants.{Live, Retired, Gone}
use Rattle.stat_defs.specs.declared.metrics.Metric.{Metric}
use Rattle.book_state.specs.declared.metrics.MetricRow.{MetricRow}
use Rattle.book_state.specs.declared.tables.NameKey.{NameKey}
use Rattle.book_state.specs.State.{Row, is_gone}
use Rattle.book_state.specs.Step.{change_at, first_mode}

abbrev pub stored : Row → MetricRow
stored row = record { metric = row.metric; bearers = length row.bearers }

abbrev pub metric_of : MetricRow → Metric
metric_of row = row.metric

-- the change at each of these places, one after the other
abbrev pub change_all : {X : Type 0} → (X → X) → List ℕ → List X → List X
change_all f [] rows = rows
change_all f (id ∷ ids) rows = change_all f ids (change_at f id rows)

-- a metric that loses a bearer
abbrev pub lose : ℕ → MetricRow → MetricRow
lose tag row = if nat_le row.bearers 1
    then record { metric = record row.metric { life = Retired tag }; bearers = 0 }
    else record row { bearers = row.bearers - 1 }

-- a metric that is found, by a scope that did not bear it yet or by one that did
abbrev pub found_again : Mode → Bool → MetricRow → MetricRow
found_again mode new row = record {
  metric = record row.metric { life = Live; mode = first_mode row.metric.mode mode };
  bearers = if new then row.bearers + 1 else row.bearers;
}

abbrev pub with_text : List ℕ → MetricRow → MetricRow
with_text text row = record row { metric = record row.metric { text = text } }

-- the release was acknowledged by all, where the least tag of a worker that has not ended is this; None where all have
-- ended
abbrev pub is_past : Option ℕ → ℕ → Bool
is_past None release = true
is_past (Some tag) release = nat_le release tag

-- a retired metric whose release was acknowledged by all
abbrev pub is_overdue : Option ℕ → Life → Bool
is_overdue least (Retired release) = is_past least release
is_overdue least Live = false
is_overdue least Gone = false

abbrev pub swept_row : Option ℕ → MetricRow → MetricRow
swept_row least row = if is_overdue least row.metric.life then record row { metric = record row.metric { life = Gone } }
    else row

-- the names that are not gone, with the numbers of their metrics, from this number on
abbrev pub names_from : ℕ → List Metric → List (NameKey × ℕ)
names_from id [] = []
names_from id (m ∷ ms) = if is_gone m.life then names_from (id + 1) ms
    else (record { kind = m.kind; name = m.name }, id) ∷ names_from (id + 1) ms

-- the metric of this number is overdue
abbrev pub overdue_at : Option ℕ → List MetricRow → ℕ → Bool
overdue_at least rows id = option_map_or (λ row. is_overdue least row.metric.life) (slice_get rows id) false

abbrev pub overdue_among : Option ℕ → List MetricRow → List ℕ → List MetricId
overdue_among least rows ids = map (λ id. record { 0 = id }) (filter (overdue_at least rows) ids)

-- the metric of this number is gone
abbrev pub gone_at : List MetricRow → ℕ → Bool
gone_at rows id = option_map_or (λ row. is_gone row.metric.life) (slice_get rows id) false

-- a live metric of this kind and full name
pub record IsNamed (name : NameKey) (metric : Metric) : Type 0 where
  pub kind : metric.kind ≡ name.kind
  pub full : metric.name ≡ name.name
  pub live : metric.life ≡ Live
