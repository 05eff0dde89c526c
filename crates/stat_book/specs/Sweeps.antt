-- What a sweep frees. This project's own.
use Rattle.std.specs.Prelude.{ℕ, List, slice_get, []}
use Rattle.std.specs.List.{flat_map}
use Rattle.std.specs.Option.{option_map_or}
use Rattle.stat_defs.specs.declared.ids.MetricId.{MetricId}
use Rattle.book_state.specs.State.{Row}

-- the symbol numbers of the metric of this number
abbrev pub numbers_at : List Row → MetricId → List ℕ
numbers_at rows id = option_map_or (λ row. row.metric.numbers) (slice_get rows id.0) []

-- the symbol numbers of these metrics, one after the other
abbrev pub numbers_of_all : List Row → List MetricId → List ℕ
numbers_of_all rows ids = flat_map (numbers_at rows) ids
