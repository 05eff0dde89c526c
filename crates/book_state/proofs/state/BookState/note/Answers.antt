use Rattle.std.proofs.Common.{◌++◌, length, refl, ap, sym, ◌∙◌, subst, append-nil}
use Rattle.book_state.specs.Stored.{StateView, IsNext, IsNoted, after_entry}
use Rattle.book_state.specs.StateKept.{shown, stored_in}
use Rattle.book_state.proofs.Entering.{next_run, kept_with, seen_with}
use Rattle.book_state.proofs.Storing.{alike_stored}
use Rattle.book_state.proofs.state.BookState.note.Goals as goal

pub invariant_of-self : goal.invariant_of-self
invariant_of-self c =
    let b = c.self.inside in let v = shown b in let e = c.args.entry.now in
    let next = subst (λ (w : StateView). IsNext w e) (sym c.self.view_is) c.requires.next in
    let noted = subst (λ (w : StateView). IsNoted w e) (sym c.self.view_is) c.requires.noted in
    kept_with b.rules (length b.seats.items) (length b.seats.items) b.past.items c.and-self-inside.result.items e refl c.and-self-inside.ensures (stored_in b)
    (alike_stored (stored_in b) v.state c.self.invariant (after_entry v e).state (next_run v e next c.self.invariant.run) noted.alike)

pub returns : goal.returns
returns c =
    let b = c.self.inside in let e = c.args.entry.now in
    seen_with b.rules (length b.seats.items) (length b.seats.items) b.past.items c.and-self-inside.result.items e refl c.and-self-inside.ensures b.released.items b.released.items c.args.self.now c.self.view_is
    (sym (ap (λ l. b.released.items ++ l) c.requires.noted.none_released ∙ append-nil b.released.items))
