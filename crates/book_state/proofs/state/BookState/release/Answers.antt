use Rattle.std.proofs.Common.{◌≡◌, ℕ, List, [], ◌∷◌, ◌++◌, length, All, refl, ap, sym, ◌∙◌, subst, rules}
use Rattle.stat_defs.specs.declared.history.Call.TheVariants as call
use Rattle.stat_defs.specs.declared.history.Reply.TheVariants as reply
use Rattle.stat_defs.specs.declared.ids.ScopeId.{ScopeId}
use Rattle.book_state.specs.Metrics.{change_all, lose}
use Rattle.book_state.proofs.Changing.{There}
use Rattle.book_state.specs.Stored.{StateView, IsNext}
use Rattle.book_state.specs.StateKept.{shown, stored_in}
use Rattle.book_state.proofs.Entering.{kept_with, seen_with}
use Rattle.book_state.proofs.Applying.{released_at}
use Rattle.book_state.proofs.Stepping.{borne_there, release_stored}
use Rattle.book_state.proofs.state.BookState.release.Goals as goal

pub lose_bearers-requires : goal.lose_bearers-requires
lose_bearers-requires c =
    let b = c.self.inside in let v = shown b in let e = c.args.entry.now in
    let next = subst (λ (w : StateView). IsNext w e) (sym c.self.view_is) c.requires.next in
    subst (λ ids. All (There b.metrics) ids) (sym c.as_slice.ensures)
    (borne_there v (stored_in b) c.self.invariant e next c.args.label.now c.in-Released.id c.requires.call c.in-Released.is c.close-borne.result c.close-borne.ensures.borne)

pub invariant_of-self-2 : goal.invariant_of-self-2
invariant_of-self-2 c =
    let b = c.self.inside in let v = shown b in let e = c.args.entry.now in
    let next = subst (λ (w : StateView). IsNext w e) (sym c.self.view_is) c.requires.next in
    kept_with b.rules (length b.seats.items) (length b.seats.items) b.past.items c.and-self-inside.result.items e refl c.and-self-inside.ensures _
    (let released = c.push_reserved.ensures.items ∙ ap (λ (ids : List ScopeId). ids ++ c.in-Released.id ∷ []) c.in_ok-reserve.ensures.items in
    let tag : c.len-tag.result ≡ length c.push_reserved.new.self.items = search rules in
    release_stored v (stored_in b) c.self.invariant e next c.args.label.now c.in-Released.id c.requires.call c.in-Released.is c.close-borne.result c.close-borne.ensures.borne c.len-tag.result
    (record { scopes = c.close-borne.new.self; metrics = c.lose_bearers.new.self; released = c.push_reserved.new.self.items; seats = (stored_in b).seats })
    c.close-borne.ensures.closed released tag (c.lose_bearers.ensures ∙ ap (λ (ids : List ℕ). change_all (lose c.len-tag.result) ids b.metrics) c.as_slice.ensures) refl)

pub returns-clause-ok : goal.returns-clause-ok
returns-clause-ok c =
    let b = c.self.inside in let v = shown b in let e = c.args.entry.now in
    let next = subst (λ (w : StateView). IsNext w e) (sym c.self.view_is) c.requires.next in
    seen_with b.rules (length b.seats.items) (length b.seats.items) b.past.items c.and-self-inside.result.items e refl c.and-self-inside.ensures b.released.items c.push_reserved.new.self.items c.args.self.now c.self.view_is
    (c.push_reserved.ensures.items ∙ (ap (λ (ids : List ScopeId). ids ++ c.in-Released.id ∷ []) c.in_ok-reserve.ensures.items
    ∙ ap (λ l. b.released.items ++ l) (sym (released_at v e (call.Release c.args.label.now) (reply.Released c.in-Released.id) c.requires.call c.in-Released.is))))
