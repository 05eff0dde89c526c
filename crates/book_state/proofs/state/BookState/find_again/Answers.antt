use Rattle.std.proofs.Common.{◌≡◌, ◌++◌, Some, length, refl, ap, sym, ◌∙◌, subst, append-nil}
use Rattle.stat_defs.specs.declared.history.Call.TheVariants as call
use Rattle.stat_defs.specs.declared.history.Reply.TheVariants as reply
use Rattle.book_state.specs.State.{live_scope}
use Rattle.book_state.specs.Step.{change_at}
use Rattle.book_state.specs.Scopes.{bearing}
use Rattle.book_state.specs.Stored.{StateView, IsStored, IsNext, after_entry}
use Rattle.book_state.specs.StateKept.{shown, stored_in}
use Rattle.book_state.proofs.Entering.{kept_with, seen_with}
use Rattle.book_state.proofs.Applying.{released_at}
use Rattle.book_state.proofs.Stepping.{find_lives, found_room, found_stored}
use Rattle.book_state.proofs.state.BookState.find_again.Goals as goal

pub bear-requires : goal.bear-requires
bear-requires c =
    let b = c.self.inside in let v = shown b in let e = c.args.entry.now in
    let next = subst (λ (w : StateView). IsNext w e) (sym c.self.view_is) c.requires.next in
    find_lives v (stored_in b) c.self.invariant e next c.args.key.now c.args.scope c.requires.call (subst (λ (w : StateView). live_scope w.state c.args.key.now.label ≡ Some c.args.scope) (sym c.self.view_is) c.requires.scope)

pub find_again-requires : goal.find_again-requires
find_again-requires c =
    let b = c.self.inside in let v = shown b in let e = c.args.entry.now in
    let next = subst (λ (w : StateView). IsNext w e) (sym c.self.view_is) c.requires.next in
    found_room v (stored_in b) c.self.invariant e next c.args.key.now c.args.scope c.requires.call (subst (λ (w : StateView). live_scope w.state c.args.key.now.label ≡ Some c.args.scope) (sym c.self.view_is) c.requires.scope) c.args.id c.requires.reply

pub invariant_of-self-2 : goal.invariant_of-self-2
invariant_of-self-2 c =
    let b = c.self.inside in let v = shown b in let e = c.args.entry.now in
    let next = subst (λ (w : StateView). IsNext w e) (sym c.self.view_is) c.requires.next in
    kept_with b.rules (length b.seats.items) (length b.seats.items) b.past.items c.and-self-inside.result.items e refl c.and-self-inside.ensures _
    (subst (λ scopes. IsStored (record (stored_in b) { scopes = scopes; metrics = c.find_again.new.self }) (after_entry v e).state) (sym c.in_ok-new.ensures.bears) (subst (λ rows. IsStored (record (stored_in b) { scopes = change_at (bearing c.args.id.0) c.args.scope b.scopes; metrics = rows }) (after_entry v e).state) (sym c.find_again.ensures) (found_stored v (stored_in b) c.self.invariant e next c.args.key.now c.args.scope c.requires.call (subst (λ (w : StateView). live_scope w.state c.args.key.now.label ≡ Some c.args.scope) (sym c.self.view_is) c.requires.scope) c.args.id c.requires.reply c.in_ok-new.new c.in_ok-new.ensures.new)))

pub returns-clause-ok : goal.returns-clause-ok
returns-clause-ok c =
    let b = c.self.inside in let v = shown b in let e = c.args.entry.now in
    let next = subst (λ (w : StateView). IsNext w e) (sym c.self.view_is) c.requires.next in
    seen_with b.rules (length b.seats.items) (length b.seats.items) b.past.items c.and-self-inside.result.items e refl c.and-self-inside.ensures b.released.items b.released.items c.args.self.now c.self.view_is
    (sym (ap (λ l. b.released.items ++ l) (released_at v e (call.Find c.args.key.now) (reply.Found c.args.id) c.requires.call c.requires.reply) ∙ append-nil b.released.items))
