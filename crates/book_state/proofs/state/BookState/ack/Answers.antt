use Rattle.std.proofs.Common.{◌++◌, map, length, refl, ap, sym, ◌∙◌, subst, arith, append-nil, rules}
use Rattle.std.proofs.lemmas.List.{length-map}
use Rattle.stat_defs.specs.declared.history.Call.TheVariants as call
use Rattle.book_state.specs.Stored.{StateView, IsNext, seat_row}
use Rattle.book_state.specs.StateKept.{shown, stored_in}
use Rattle.book_state.proofs.Entering.{kept_with, seen_with}
use Rattle.book_state.proofs.Applying.{released_at}
use Rattle.book_state.proofs.Stepping.{ack_within, acked_stored}
use Rattle.book_state.proofs.state.BookState.ack.Goals as goal

pub set_tag-requires : goal.set_tag-requires
set_tag-requires c =
    let b = c.self.inside in let v = shown b in let e = c.args.entry.now in
    let next = subst (λ (w : StateView). IsNext w e) (sym c.self.view_is) c.requires.next in
    let within = ack_within v (stored_in b) c.self.invariant e next c.requires.call in
    (within.0, omega (arith, within.1, length-map b.seats.items seat_row))

pub invariant_of-self : goal.invariant_of-self
invariant_of-self c =
    let b = c.self.inside in let v = shown b in let e = c.args.entry.now in
    let next = subst (λ (w : StateView). IsNext w e) (sym c.self.view_is) c.requires.next in
    kept_with b.rules (length b.seats.items) (length c.set_tag.new.seats.items) b.past.items c.and-self-inside.result.items e c.set_tag.ensures.count c.and-self-inside.ensures _
    (acked_stored v (stored_in b) c.self.invariant e next c.requires.call c.len-tag.result (search rules) (map seat_row c.set_tag.new.seats.items) c.set_tag.ensures.rows)

pub returns : goal.returns
returns c =
    let b = c.self.inside in let v = shown b in let e = c.args.entry.now in
    let next = subst (λ (w : StateView). IsNext w e) (sym c.self.view_is) c.requires.next in
    seen_with b.rules (length b.seats.items) (length c.set_tag.new.seats.items) b.past.items c.and-self-inside.result.items e c.set_tag.ensures.count c.and-self-inside.ensures b.released.items b.released.items c.args.self.now c.self.view_is
    (sym (ap (λ l. b.released.items ++ l) (released_at v e call.Ack e.reply c.requires.call refl) ∙ append-nil b.released.items))
