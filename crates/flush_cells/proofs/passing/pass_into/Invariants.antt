use Rattle.std.proofs.Common.{◌≡◌, ◌≤◌, ◌++◌, ◌+◌, length, map, All, vec_capacity, vec_len}
use Rattle.std.specs.Vec.Iter.{into_iter_items}
use Rattle.seat_parts.specs.Parts.{total}
use Rattle.flush_cells.specs.Cells.{merged_count}
use Rattle.flush_cells.specs.Cells.{cell_of, held_weight, taken_weight, IsCellKept}
use Rattle.flush_cells.specs.Passes.{PassesEach}
use Rattle.flush_cells.specs.Late.{pass_from}
use Rattle.flush_cells.proofs.passing.pass_into.Given as goal

abbrev pub invariant-loop-seat : goal.invariant-loop-seat
invariant-loop-seat l =
    (l.fn.seats.items ≡ l.yielded ++ into_iter_items l.seat-iterator)
    × PassesEach 1 l.initial.parents l.yielded l.parents l.next.items
    × (map cell_of l.next.items ≡ map cell_of l.yielded)
    × All IsCellKept l.next.items
    × (merged_count l.parents + total held_weight l.next.items + total taken_weight l.yielded
    ≡ merged_count l.initial.parents + total held_weight l.yielded + total taken_weight l.next.items)
    × (l.pass ≡ pass_from 1 l.next.items)
    × (length l.fn.seats.items ≤ vec_capacity l.next)
    × (vec_len l.next ≡ length l.yielded)
