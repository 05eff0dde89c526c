use Rattle.std.proofs.Common.{◌++◌, length, refl, ap, sym, ◌∙◌, subst, append-nil}
use Rattle.stat_defs.specs.declared.history.Call.TheVariants as call
use Rattle.book_state.specs.Step.{change_at}
use Rattle.book_state.specs.Metrics.{with_text}
use Rattle.book_state.specs.Stored.{StateView, IsStored, IsNext, after_entry}
use Rattle.book_state.specs.StateKept.{shown, stored_in}
use Rattle.book_state.proofs.Entering.{kept_with, seen_with}
use Rattle.book_state.proofs.Applying.{released_at}
use Rattle.book_state.proofs.Stepping.{text_stored, text_within}
use Rattle.book_state.proofs.state.BookState.set_text.Goals as goal

pub set_text-requires : goal.set_text-requires
set_text-requires c =
    let b = c.self.inside in let v = shown b in let e = c.args.entry.now in
    let next = subst (λ (w : StateView). IsNext w e) (sym c.self.view_is) c.requires.next in
    text_within v (stored_in b) c.self.invariant e next c.args.id c.args.text.now c.requires.call

pub invariant_of-self : goal.invariant_of-self
invariant_of-self c =
    let b = c.self.inside in let v = shown b in let e = c.args.entry.now in
    let next = subst (λ (w : StateView). IsNext w e) (sym c.self.view_is) c.requires.next in
    kept_with b.rules (length b.seats.items) (length b.seats.items) b.past.items c.and-self-inside.result.items e refl c.and-self-inside.ensures _
    (subst (λ rows. IsStored (record (stored_in b) { metrics = rows }) (after_entry v e).state) (sym (c.set_text.ensures ∙ ap (λ text. change_at (with_text text) c.args.id.0 b.metrics) c.in_ok-text.ensures.cases)) (text_stored v (stored_in b) c.self.invariant e next c.args.id c.args.text.now c.requires.call))

pub returns-clause-ok : goal.returns-clause-ok
returns-clause-ok c =
    let b = c.self.inside in let v = shown b in let e = c.args.entry.now in
    let next = subst (λ (w : StateView). IsNext w e) (sym c.self.view_is) c.requires.next in
    seen_with b.rules (length b.seats.items) (length b.seats.items) b.past.items c.and-self-inside.result.items e refl c.and-self-inside.ensures b.released.items b.released.items c.args.self.now c.self.view_is
    (sym (ap (λ l. b.released.items ++ l) (released_at v e (call.SetText c.args.id c.args.text.now) e.reply c.requires.call refl) ∙ append-nil b.released.items))
