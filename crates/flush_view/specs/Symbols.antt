-- The rows of `# symbols`: the metrics that are live after the last sweep, with the symbols of their names
-- (Envoy's design note on statistics: a name is stored as symbol numbers; the rows are this project's own).
use Rattle.std.specs.Prelude.{ℕ, ◌&&◌, Bool, true, false, List, [], ◌∷◌, ◌++◌, filter, codes}
use Rattle.std.specs.List.{flat_map, zip}
use Rattle.std.specs.Fmt.{decimal}
use Rattle.stat_defs.specs.declared.ids.Kind.{Kind}
use Rattle.stat_defs.specs.declared.ids.Kind.TheVariants.{Counter, Gauge, Histogram, Text}
use Rattle.stat_defs.specs.declared.ids.Mode.{Mode}
use Rattle.stat_defs.specs.declared.metrics.Life.{Life}
use Rattle.stat_defs.specs.declared.metrics.Life.TheVariants.{Live, Retired, Gone}
use Rattle.stat_defs.specs.declared.metrics.Metric.{Metric}
use Rattle.stat_defs.specs.Keys.{same_kind}
use Rattle.stat_defs.specs.Names.{tokens}
use Rattle.event_script.specs.Grammar.{mode_word}
use Rattle.stat_name.specs.StoredName.{stored}
use Rattle.book_state.specs.State.{State, metrics_of}
use Rattle.hex.specs.Hex.{encode_lower}
use Rattle.flush_view.specs.ByName.{by_name}

abbrev pub is_live_life : Life → Bool
is_live_life Live = true
is_live_life (Retired tag) = false
is_live_life Gone = false

abbrev pub live_of_kind : State → Kind → List Metric
live_of_kind s kind = filter (λ metric. is_live_life metric.life && same_kind metric.kind kind) (metrics_of s)

-- the kinds in the order of rows with one name
abbrev pub kinds : List Kind
kinds = Counter ∷ Gauge ∷ Histogram ∷ Text ∷ []

-- the live metrics by full name, those of one name by kind
abbrev pub live_metrics : State → List Metric
live_metrics s = by_name (λ metric. metric.name) (flat_map (live_of_kind s) kinds)

abbrev pub kind_word : Kind → List ℕ
kind_word Counter = codes "counter"
kind_word Gauge = codes "gauge"
kind_word Histogram = codes "histogram"
kind_word Text = codes "text"

-- a gauge's mode; the others have none
abbrev pub mode_told : Kind → Mode → List ℕ
mode_told Gauge mode = mode_word mode
mode_told Counter mode = codes "-"
mode_told Histogram mode = codes "-"
mode_told Text mode = codes "-"

-- ` NUMBER=TOKEN`
abbrev pub symbol_told : ℕ × List ℕ → List ℕ
symbol_told (number, token) = codes " " ++ (decimal number ++ (codes "=" ++ token))

-- `NAME KIND MODE HEX`, and each symbol number of the name with its token; HEX is the name as it is stored
abbrev pub symbol_line : Metric → List ℕ
symbol_line metric =
    metric.name
    ++ (codes " " ++ (kind_word metric.kind
    ++ (codes " " ++ (mode_told metric.kind metric.mode
    ++ (codes " " ++ (encode_lower (stored metric.numbers)
    ++ (flat_map symbol_told (zip metric.numbers (tokens metric.name)) ++ codes "\n")))))))
