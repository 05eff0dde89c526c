use Rattle.std.proofs.Common.{◌≡◌, ℕ, take, map}
use Rattle.std.specs.List.{list_all}
use Rattle.book_state.specs.Metrics.{is_past}
use Rattle.book_state.specs.Stored.{seat_row, has_passed}
use Rattle.book_state.proofs.seats.least_tag.Given as goal

abbrev pub invariant-loop-seat : goal.invariant-loop-seat
invariant-loop-seat l = (release : ℕ) → is_past l.least release ≡ list_all (has_passed release) (map seat_row (take l.seat-index l.seats))
