use Rattle.std.proofs.Common.{◌++◌, length, refl, ap, sym, ◌∙◌, subst, append-nil}
use Rattle.stat_defs.specs.declared.history.Call.TheVariants as call
use Rattle.book_state.specs.Stored.{StateView, IsStored, IsNext, after_entry}
use Rattle.book_state.specs.StateKept.{shown, stored_in}
use Rattle.book_state.proofs.Entering.{kept_with, seen_with}
use Rattle.book_state.proofs.Applying.{released_at}
use Rattle.book_state.proofs.Stepping.{open_stored}
use Rattle.book_state.proofs.state.BookState.open.Goals as goal

pub invariant_of-self-2 : goal.invariant_of-self-2
invariant_of-self-2 c =
    let b = c.self.inside in let v = shown b in let e = c.args.entry.now in
    let next = subst (λ (w : StateView). IsNext w e) (sym c.self.view_is) c.requires.next in
    kept_with b.rules (length b.seats.items) (length b.seats.items) b.past.items c.and-self-inside.result.items e refl c.and-self-inside.ensures _
    (subst (λ scopes. IsStored (record (stored_in b) { scopes = scopes }) (after_entry v e).state) (sym c.in_ok-open.ensures.opened) (open_stored v (stored_in b) c.self.invariant e next c.args.label.now c.args.prefix.now c.in-Opened.id c.requires.call c.in-Opened.is c.open.ensures.few))

pub returns-clause-ok : goal.returns-clause-ok
returns-clause-ok c =
    let b = c.self.inside in let v = shown b in let e = c.args.entry.now in
    let next = subst (λ (w : StateView). IsNext w e) (sym c.self.view_is) c.requires.next in
    seen_with b.rules (length b.seats.items) (length b.seats.items) b.past.items c.and-self-inside.result.items e refl c.and-self-inside.ensures b.released.items b.released.items c.args.self.now c.self.view_is
    (sym (ap (λ l. b.released.items ++ l) (released_at v e (call.OpenScope c.args.label.now c.args.prefix.now) e.reply c.requires.call refl) ∙ append-nil b.released.items))
