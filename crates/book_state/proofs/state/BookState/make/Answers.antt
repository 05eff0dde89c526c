use Rattle.std.proofs.Common.{◌≡◌, [], ◌∷◌, ◌++◌, Some, map, length, refl, ap, sym, ◌∙◌, subst, append-nil}
use Rattle.stat_defs.specs.declared.history.Call.TheVariants as call
use Rattle.stat_defs.specs.declared.history.Reply.TheVariants as reply
use Rattle.book_state.specs.State.{live_scope}
use Rattle.book_state.specs.Step.{change_at}
use Rattle.book_state.specs.Scopes.{bearing}
use Rattle.book_state.specs.Stored.{StateView, IsStored, IsNext, after_entry}
use Rattle.book_state.specs.StateKept.{shown, stored_in}
use Rattle.book_state.proofs.Entering.{kept_with, seen_with}
use Rattle.book_state.proofs.Applying.{released_at}
use Rattle.stat_defs.specs.declared.metrics.Metric.{Metric}
use Rattle.book_state.specs.State.{known_in}
use Rattle.book_state.specs.Finding.{name_of}
use Rattle.book_state.specs.Metrics.{metric_of}
use Rattle.book_state.specs.Stored.{numbers_in, fresh_metric}
use Rattle.book_state.proofs.Naming.{makes_of}
use Rattle.book_state.proofs.Stepping.{find_lives, make_new, made_stored}
use Rattle.book_state.proofs.state.BookState.make.Goals as goal

pub make-requires-clause-scope : goal.make-requires-clause-scope
make-requires-clause-scope c =
    let b = c.self.inside in let v = shown b in let e = c.args.entry.now in
    let next = subst (λ (w : StateView). IsNext w e) (sym c.self.view_is) c.requires.next in
    find_lives v (stored_in b) c.self.invariant e next c.args.key.now c.args.scope c.requires.find (subst (λ (w : StateView). live_scope w.state c.args.key.now.label ≡ Some c.args.scope) (sym c.self.view_is) c.requires.scope)

pub make-requires-clause-new : goal.make-requires-clause-new
make-requires-clause-new c =
    let b = c.self.inside in let v = shown b in let e = c.args.entry.now in
    let next = subst (λ (w : StateView). IsNext w e) (sym c.self.view_is) c.requires.next in
    let makes = makes_of e.reply c.requires.made in
    (λ i. known_in (map metric_of b.metrics) (c.requires.means.kind i) ((c.requires.means.name ∙ ap (λ (w : StateView). name_of w.state c.args.key.now) (sym c.self.view_is)) i)) ∙ make_new v (stored_in b) c.self.invariant e next c.args.key.now c.args.scope c.requires.find (subst (λ (w : StateView). live_scope w.state c.args.key.now.label ≡ Some c.args.scope) (sym c.self.view_is) c.requires.scope) makes.0 (numbers_in e.reply) makes.1

pub invariant_of-self-2 : goal.invariant_of-self-2
invariant_of-self-2 c =
    let b = c.self.inside in let v = shown b in let e = c.args.entry.now in
    let next = subst (λ (w : StateView). IsNext w e) (sym c.self.view_is) c.requires.next in
    let makes = makes_of e.reply c.requires.made in
    let name = c.requires.means.name ∙ ap (λ (w : StateView). name_of w.state c.args.key.now) (sym c.self.view_is) in
    let metric : c.in_ok-metric.metric ≡ fresh_metric b.rules c.args.key.now (name_of v.state c.args.key.now) (numbers_in e.reply) =
    c.in_ok-metric.ensures ∙ (λ i. fresh_metric b.rules c.args.key.now (name i) (c.numbers_of.ensures i)) in
    kept_with b.rules (length b.seats.items) (length b.seats.items) b.past.items c.and-self-inside.result.items e refl c.and-self-inside.ensures _
    (subst (λ scopes. IsStored (record (stored_in b) { scopes = scopes; metrics = c.make.new.self }) (after_entry v e).state) (sym c.in_ok-make.ensures.borne)
    (subst (λ rows. IsStored (record (stored_in b) { scopes = change_at (bearing (length b.metrics)) c.args.scope b.scopes; metrics = rows }) (after_entry v e).state)
    (sym (c.in_ok-make.ensures.made ∙ ap (λ (m : Metric). b.metrics ++ record { metric = m; bearers = 1 } ∷ []) metric))
    (made_stored v (stored_in b) c.self.invariant e next c.args.key.now c.args.scope c.requires.find (subst (λ (w : StateView). live_scope w.state c.args.key.now.label ≡ Some c.args.scope) (sym c.self.view_is) c.requires.scope) makes.0 (numbers_in e.reply) makes.1)))

pub returns-clause-ok : goal.returns-clause-ok
returns-clause-ok c =
    let b = c.self.inside in let v = shown b in let e = c.args.entry.now in
    let next = subst (λ (w : StateView). IsNext w e) (sym c.self.view_is) c.requires.next in
    let makes = makes_of e.reply c.requires.made in
    seen_with b.rules (length b.seats.items) (length b.seats.items) b.past.items c.and-self-inside.result.items e refl c.and-self-inside.ensures b.released.items b.released.items c.args.self.now c.self.view_is
    (sym (ap (λ l. b.released.items ++ l) (released_at v e (call.Find c.args.key.now) (reply.Made makes.0 (numbers_in e.reply)) c.requires.find makes.1) ∙ append-nil b.released.items))
