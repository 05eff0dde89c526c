use Rattle.std.proofs.Common.{◌++◌, map, length, refl, ap, sym, ◌∙◌, subst, append-nil}
use Rattle.stat_defs.specs.declared.history.Call.TheVariants as call
use Rattle.std.specs.List.{list_all}
use Rattle.book_state.specs.Stored.{StateView, IsStored, has_passed, IsNext, after_entry, seat_row}
use Rattle.book_state.specs.StateKept.{shown, stored_in}
use Rattle.book_state.proofs.Entering.{kept_with, seen_with}
use Rattle.book_state.proofs.Applying.{released_at}
use Rattle.book_state.proofs.Stepping.{swept_stored}
use Rattle.book_state.proofs.state.BookState.sweep.Goals as goal

pub invariant_of-self : goal.invariant_of-self
invariant_of-self c =
    let b = c.self.inside in let v = shown b in let e = c.args.entry.now in
    let next = subst (λ (w : StateView). IsNext w e) (sym c.self.view_is) c.requires.next in
    kept_with b.rules (length b.seats.items) (length b.seats.items) b.past.items c.and-self-inside.result.items e refl c.and-self-inside.ensures _
    (subst (λ rows. IsStored (record (stored_in b) { metrics = rows }) (after_entry v e).state) (sym c.sweep.ensures) (swept_stored v (stored_in b) c.self.invariant e next c.requires.call c.least_tag.result (λ r. c.least_tag.ensures r ∙ ap (λ seats. list_all (has_passed r) (map seat_row seats)) c.deref.ensures.value)))

pub returns : goal.returns
returns c =
    let b = c.self.inside in let v = shown b in let e = c.args.entry.now in
    let next = subst (λ (w : StateView). IsNext w e) (sym c.self.view_is) c.requires.next in
    seen_with b.rules (length b.seats.items) (length b.seats.items) b.past.items c.and-self-inside.result.items e refl c.and-self-inside.ensures b.released.items b.released.items c.args.self.now c.self.view_is
    (sym (ap (λ l. b.released.items ++ l) (released_at v e call.Sweep e.reply c.requires.call refl) ∙ append-nil b.released.items))
