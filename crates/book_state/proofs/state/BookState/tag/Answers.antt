use Rattle.std.proofs.Common.{◌≡◌, ◌-◌, List, map, slice_get, ap, sym, ◌∙◌, subst}
use Rattle.std.specs.Option.{IsSomeAnd}
use Rattle.book_state.specs.declared.seats.SeatRow.{SeatRow}
use Rattle.book_state.specs.Step.{Works}
use Rattle.book_state.specs.Follows.{tag_of}
use Rattle.book_state.specs.Stored.{StateView, seat_row}
use Rattle.book_state.specs.StateKept.{shown, stored_in}
use Rattle.book_state.proofs.Naming.{tag_is}
use Rattle.book_state.proofs.state.BookState.tag.Goals as goal

pub returns : goal.returns
returns c =
    let b = c.self.inside in
    let works = subst (λ (v : StateView). Works v.state c.args.seat) (sym c.self.view_is) c.requires in
    tag_is (stored_in b) (shown b).state c.self.invariant c.args.seat c.tag_at.result works
    (subst (λ (seats : List SeatRow). IsSomeAnd (slice_get (map seat_row seats) (c.args.seat - 1)) (λ row. row.0 ≡ c.tag_at.result)) c.deref.ensures.value c.tag_at.ensures)
    ∙ ap (λ (v : StateView). tag_of v.state c.args.seat) c.self.view_is
