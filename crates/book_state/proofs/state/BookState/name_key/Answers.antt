use Rattle.std.proofs.Common.{◌≡◌, Some, ap, sym, ◌∙◌, subst}
use Rattle.stat_defs.specs.Names.{IsFullName}
use Rattle.book_state.specs.State.{live_scope}
use Rattle.book_state.specs.Finding.{name_of}
use Rattle.book_state.specs.Stored.{StateView}
use Rattle.book_state.specs.StateKept.{shown, stored_in}
use Rattle.book_state.proofs.Naming.{full_is_full, scope_lives, prefix_lawful, name_is}
use Rattle.book_state.proofs.state.BookState.name_key.Goals as goal

pub prefix-requires : goal.prefix-requires
prefix-requires c =
    let live = subst (λ (w : StateView). live_scope w.state c.args.key.now.label ≡ Some c.args.scope) (sym c.self.view_is) c.requires.scope in
    scope_lives (stored_in c.self.inside) (shown c.self.inside).state c.self.invariant c.args.key.now c.args.scope live

pub full_name-requires-clause-prefix : goal.full_name-requires-clause-prefix
full_name-requires-clause-prefix c =
    let live = subst (λ (w : StateView). live_scope w.state c.args.key.now.label ≡ Some c.args.scope) (sym c.self.view_is) c.requires.scope in
    prefix_lawful (stored_in c.self.inside) (shown c.self.inside).state c.self.invariant c.args.key.now c.args.scope live c.prefix.result.now c.prefix.ensures

pub returns-clause-name : goal.returns-clause-name
returns-clause-name c =
    let live = subst (λ (w : StateView). live_scope w.state c.args.key.now.label ≡ Some c.args.scope) (sym c.self.view_is) c.requires.scope in
    c.in_ok-full_name.ensures ∙ (name_is (stored_in c.self.inside) (shown c.self.inside).state c.self.invariant c.args.key.now c.args.scope live c.prefix.result.now c.prefix.ensures
    ∙ ap (λ (w : StateView). name_of w.state c.args.key.now) c.self.view_is)

pub returns-clause-full : goal.returns-clause-full
returns-clause-full c =
    let live = subst (λ (w : StateView). live_scope w.state c.args.key.now.label ≡ Some c.args.scope) (sym c.self.view_is) c.requires.scope in
    subst IsFullName (sym c.in_ok-full_name.ensures)
    (full_is_full c.prefix.result.now c.args.key.now.name (prefix_lawful (stored_in c.self.inside) (shown c.self.inside).state c.self.invariant c.args.key.now c.args.scope live c.prefix.result.now c.prefix.ensures) c.requires.name)
