-- Flushes that the tests try. This project's own.
use Rattle.std.specs.Prelude.{ℕ, ◌-◌, ◌^◌, List, [], ◌∷◌}
use Rattle.stat_defs.specs.declared.reports.FlushRecord.{FlushRecord}
use Rattle.stat_defs.specs.declared.reports.Part.{Part}
use Rattle.ledger.specs.Worked.{delta, reading}
use Rattle.flush_view.specs.WorkedRows.{bin_count}

-- a part of histogram 2
abbrev pub tried_part : ℕ → ℕ → Part
tried_part val count = record { worker = 1; id = record { 0 = 2 }; bins = bin_count val count ∷ [] }

-- counter 0 is gone in the first sweep; the second flush has 2 units of it, and the last none
abbrev pub tried_flushes : List FlushRecord
tried_flushes =
    record { at = 9; deltas = delta 0 1 ∷ []; gauges = reading 1 (2 ^ 64 - 5) ∷ []; parts = tried_part 70 1 ∷ [] }
    ∷ record { at = 13; deltas = delta 0 2 ∷ delta 4 3 ∷ []; gauges = reading 1 5 ∷ []; parts = [] }
    ∷ record { at = 15; deltas = delta 0 0 ∷ delta 4 1 ∷ []; gauges = reading 1 5 ∷ []; parts = tried_part 20 4 ∷ [] }
    ∷ []
