-- The lines of counters, row by row.
use Rattle.std.proofs.Common.{◌≡◌, ℕ, Bool, true, false, cond, nat_lt, List, [], ◌∷◌, ◌++◌, filter, refl, ap}
use Rattle.std.specs.List.{flat_map}
use Rattle.stat_defs.specs.declared.views.CounterRow.{CounterRow}
use Rattle.statsd_text.specs.Statsd.{counter_line, counter_lines}
use Rattle.statsd_text.specs.Parts.{shown_counter}

one_more : (shown : Bool) (prefix : List ℕ) (row : CounterRow) (rest : List CounterRow) (lines : List ℕ)
    → lines ≡ flat_map (counter_line prefix) rest
    → cond shown (counter_line prefix row) [] ++ lines ≡ flat_map (counter_line prefix) (cond shown (row ∷ rest) rest)
one_more true prefix row rest lines e = ap (λ l. counter_line prefix row ++ l) e
one_more false prefix row rest lines e = e

pub lines_of_counters : (prefix : List ℕ) (rows : List CounterRow) → flat_map (shown_counter prefix) rows
    ≡ counter_lines prefix rows
lines_of_counters prefix [] = refl
lines_of_counters prefix (row ∷ rows) =
    one_more (nat_lt 0 row.total) prefix row (filter (λ (r : CounterRow). nat_lt 0 r.total) rows)
    (flat_map (shown_counter prefix) rows)
    (lines_of_counters prefix rows)
