use Rattle.std.proofs.Common.{ℕ, ◌-◌, ◌<◌, Bool, length, refl, arith}
use Rattle.book_state.specs.Stored.{seat_row}
use Rattle.book_state.proofs.Lists.{map-set_read}
use Rattle.book_state.proofs.seats.set_tag.Goals as goal

pub returns-clause-rows : goal.returns-clause-rows
returns-clause-rows c =
    let within : c.args.seat - 1 < length c.args.seats.now.items = omega (arith, c.requires.0, c.requires.1) in
    map-set_read seat_row (λ (row : ℕ × Bool). (c.args.tag, row.1)) c.args.seats.now.items (c.args.seat - 1) c.index_mut.result.now _ within c.index_mut.ensures.value refl
