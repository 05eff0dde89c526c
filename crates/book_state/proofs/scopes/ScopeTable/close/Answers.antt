use Rattle.std.proofs.Common.{◌≡◌, true, Option, Some, List, map, sym, subst}
use Rattle.std.specs.Option.{IsSomeAnd}
use Rattle.book_state.specs.State.{live_in}
use Rattle.book_state.specs.Scopes.{ScopeView, scope_of_view}
use Rattle.book_state.specs.ScopesKept.{shown}
use Rattle.book_state.proofs.LiveScopes.{scope_at, closed_kept}
use Rattle.book_state.proofs.scopes.ScopeTable.close.Goals as goal

pub empty_row-requires : goal.empty_row-requires
empty_row-requires c =
    let hit : live_in (map scope_of_view (shown c.self.inside)) c.args.label.now ≡ Some c.args.id = subst (λ (v : List ScopeView). live_in (map scope_of_view v) c.args.label.now ≡ Some c.args.id) (sym c.self.view_is) c.requires in
    let at = scope_at (shown c.self.inside) c.args.label.now c.args.id hit in
    subst (λ (o : Option ScopeView). IsSomeAnd o (λ (scope : ScopeView). scope.live ≡ true)) (sym at.1) at.2

pub invariant_of-self : goal.invariant_of-self
invariant_of-self c =
    let hit : live_in (map scope_of_view (shown c.self.inside)) c.args.label.now ≡ Some c.args.id = subst (λ (v : List ScopeView). live_in (map scope_of_view v) c.args.label.now ≡ Some c.args.id) (sym c.self.view_is) c.requires in
    closed_kept c.self.inside _ c.args.label.now c.args.id hit c.empty_row.ensures.emptied c.unlist_label.ensures c.self.invariant
