-- The StatsD lines of a flush (the StatsD line format; the replaced bytes, the order of lines and the choice of
-- counters are
-- this project's own).
use Rattle.std.specs.Prelude.{ℕ, ◌||◌, ◌==◌, nat_lt, if◌then◌else◌, List, ◌∷◌, ◌++◌, map, filter, codes}
use Rattle.std.specs.List.{flat_map}
use Rattle.std.specs.Fmt.{decimal, signed_decimal}
use Rattle.stat_defs.specs.declared.views.CounterRow.{CounterRow}
use Rattle.stat_defs.specs.declared.views.GaugeRow.{GaugeRow}
use Rattle.stat_defs.specs.declared.views.FlushView.{FlushView}

-- a colon and a bar, which would end a name, are written as `_`
abbrev pub plain_byte : ℕ → ℕ
plain_byte b = if b == 58 || b == 124 then 95 else b

-- `PREFIX.NAME:SHOWN`
abbrev pub stat_line : List ℕ → List ℕ → List ℕ → List ℕ
stat_line prefix name shown = map plain_byte (prefix ++ 46 ∷ name) ++ 58 ∷ shown

-- `PREFIX.NAME:DELTA|c`
abbrev pub counter_line : List ℕ → CounterRow → List ℕ
counter_line prefix row = stat_line prefix row.name (decimal row.delta ++ codes "|c\n")

-- `PREFIX.NAME:VALUE|g`, the value with a minus sign where it is negative
abbrev pub gauge_line : List ℕ → GaugeRow → List ℕ
gauge_line prefix row = stat_line prefix row.name (signed_decimal row.value ++ codes "|g\n")

-- a counter has a line where its total is above 0, also where its delta is 0
abbrev pub counter_lines : List ℕ → List CounterRow → List ℕ
counter_lines prefix rows = flat_map (counter_line prefix) (filter (λ row. nat_lt 0 row.total) rows)

-- every gauge has a line
abbrev pub gauge_lines : List ℕ → List GaugeRow → List ℕ
gauge_lines prefix rows = flat_map (gauge_line prefix) rows

-- counters, then gauges, each in the order of the rows
abbrev pub statsd_text : List ℕ → FlushView → List ℕ
statsd_text prefix view = counter_lines prefix view.counters ++ gauge_lines prefix view.gauges
