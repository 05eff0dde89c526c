use Rattle.std.proofs.Common.{◌++◌, map, length, refl, ap, sym, ◌∙◌, subst, arith, append-nil}
use Rattle.std.proofs.lemmas.List.{length-map}
use Rattle.stat_defs.specs.declared.history.Call.TheVariants as call
use Rattle.book_state.specs.Stored.{StateView, IsNext, seat_row}
use Rattle.book_state.specs.StateKept.{shown, stored_in}
use Rattle.book_state.proofs.Entering.{kept_with, seen_with}
use Rattle.book_state.proofs.Applying.{released_at}
use Rattle.book_state.proofs.Stepping.{end_within, ended_stored}
use Rattle.book_state.proofs.state.BookState.end.Goals as goal

pub end_seat-requires : goal.end_seat-requires
end_seat-requires c =
    let b = c.self.inside in let v = shown b in let e = c.args.entry.now in
    let next = subst (λ (w : StateView). IsNext w e) (sym c.self.view_is) c.requires.next in
    let within = end_within v (stored_in b) c.self.invariant e next c.requires.call in
    (within.0, omega (arith, within.1, length-map b.seats.items seat_row))

pub invariant_of-self : goal.invariant_of-self
invariant_of-self c =
    let b = c.self.inside in let v = shown b in let e = c.args.entry.now in
    let next = subst (λ (w : StateView). IsNext w e) (sym c.self.view_is) c.requires.next in
    kept_with b.rules (length b.seats.items) (length c.end_seat.new.seats.items) b.past.items c.and-self-inside.result.items e c.end_seat.ensures.count c.and-self-inside.ensures _
    (ended_stored v (stored_in b) c.self.invariant e next c.requires.call (map seat_row c.end_seat.new.seats.items) c.end_seat.ensures.rows)

pub returns : goal.returns
returns c =
    let b = c.self.inside in let v = shown b in let e = c.args.entry.now in
    let next = subst (λ (w : StateView). IsNext w e) (sym c.self.view_is) c.requires.next in
    seen_with b.rules (length b.seats.items) (length c.end_seat.new.seats.items) b.past.items c.and-self-inside.result.items e c.end_seat.ensures.count c.and-self-inside.ensures b.released.items b.released.items c.args.self.now c.self.view_is
    (sym (ap (λ l. b.released.items ++ l) (released_at v e call.End e.reply c.requires.call refl) ∙ append-nil b.released.items))
