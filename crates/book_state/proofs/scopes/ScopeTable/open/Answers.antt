use Rattle.std.proofs.Common.{◌≡◌, ℕ, None, Some, List, [], ◌∷◌, ◌++◌, nat_eq, ap, sym, ◌∙◌, subst, map, length}
use Rattle.std.proofs.lemmas.List.{map_push}
use Rattle.std.specs.Cmp.Lexicographic.{pointwise}
use Rattle.indexmap.specs.IndexMap.{Updates}
use Rattle.book_state.specs.declared.scopes.ScopeRow.{ScopeRow}
use Rattle.book_state.specs.State.{live_in}
use Rattle.book_state.specs.Scopes.{ScopeView, scope_of_view, opened}
use Rattle.book_state.specs.ScopesKept.{row_shown, shown}
use Rattle.book_state.proofs.LiveScopes.{opened_kept}
use Rattle.book_state.proofs.scopes.ScopeTable.open.Goals as goal

row_put : (items before after : List ScopeRow) (row : ScopeRow) (label prefix : List ℕ) → items ≡ before → after ≡ items ++ row ∷ [] → row_shown row ≡ opened label prefix
    → map row_shown after ≡ map row_shown before ++ opened label prefix ∷ []
row_put items before after row label prefix same put is =
    ap (λ rows. map row_shown rows) (put ∙ ap (λ (rows : List ScopeRow). rows ++ row ∷ []) same) ∙ (map_push row_shown before row ∙ ap (λ (v : ScopeView). map row_shown before ++ v ∷ []) is)

pub invariant_of-self-2 : goal.invariant_of-self-2
invariant_of-self-2 c =
    let free : live_in (map scope_of_view (shown c.self.inside)) c.args.label.now ≡ None = subst (λ (v : List ScopeView). live_in (map scope_of_view v) c.args.label.now ≡ None) (sym c.self.view_is) c.requires.free in
    opened_kept c.self.inside _ c.args.label.now c.args.prefix.now free
    (row_put _ c.self.inside.rows.items _ _ c.args.label.now c.args.prefix.now c.in_ok-reserve.ensures.items c.push_reserved.ensures.items c.in_ok-row.ensures)
    (subst (λ (n : ℕ). Updates (pointwise nat_eq) c.self.inside.live c.list_label.new.live c.args.label.now (Some n))
    (c.requires.next ∙ ap length (sym c.self.view_is)) (rw c.in_ok-key.ensures.cases at c.in_ok-list_label.ensures.ok))
    c.self.invariant
