use Rattle.std.proofs.Common.{◌≡◌, ◌≤◌, ◌++◌, length, map, All, vec_capacity, vec_len}
use Rattle.std.specs.Vec.Iter.{into_iter_items}
use Rattle.flush_cells.specs.Cells.{cell_of, held_weight, taken_weight, IsCellKept}
use Rattle.seat_parts.specs.Parts.{total}
use Rattle.flush_cells.specs.Asks.{AsksEach}
use Rattle.flush_cells.proofs.asking.ask_into.Given as goal

abbrev pub invariant-loop-seat : goal.invariant-loop-seat
invariant-loop-seat l =
    (l.fn.seats.items ≡ l.yielded ++ into_iter_items l.seat-iterator)
    × AsksEach l.yielded l.asked.items
    × (map cell_of l.asked.items ≡ map cell_of l.yielded)
    × (All IsCellKept l.fn.seats.items → All IsCellKept l.asked.items)
    × (length l.fn.seats.items ≤ vec_capacity l.asked)
    × ((total held_weight l.asked.items ≡ total held_weight l.yielded) × (total taken_weight l.asked.items ≡ total taken_weight l.yielded))
    × (vec_len l.asked ≡ length l.yielded)
