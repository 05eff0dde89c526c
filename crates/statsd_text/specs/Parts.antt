-- What is written of one row.
use Rattle.std.specs.Prelude.{ℕ, nat_lt, if◌then◌else◌, List, []}
use Rattle.stat_defs.specs.declared.views.CounterRow.{CounterRow}
use Rattle.statsd_text.specs.Statsd.{counter_line}

-- the line of a counter, or nothing where its total is 0
abbrev pub shown_counter : List ℕ → CounterRow → List ℕ
shown_counter prefix row = if nat_lt 0 row.total then counter_line prefix row else []
