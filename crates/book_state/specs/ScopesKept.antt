-- What the fields of a table of scopes keep.
use Rattle.std.specs.Prelude.{◌≡◌, ℕ, nat_eq, true, Some, List, [], get_or, map, slice_get}
use Rattle.std.specs.Option.{is_some, option_map_or}
use Rattle.std.specs.Cmp.Lexicographic.{pointwise}
use Rattle.indexmap.specs.IndexMap.{get}
use Rattle.book_state.specs.declared.scopes.ScopeTable.TheInside.{Inside}
use Rattle.book_state.specs.declared.scopes.ScopeRow.{ScopeRow}
use Rattle.book_state.specs.State.{live_in}
use Rattle.book_state.specs.Scopes.{ScopeView, scope_of_view}

abbrev pub row_shown : ScopeRow → ScopeView
row_shown row = record {
  label = get_or row.label.items 0 [];
  prefix = option_map_or (λ scope. scope.value.prefix) row.live (get_or row.past_prefix.items 0 []);
  live = is_some row.live;
  bears = option_map_or (λ scope. scope.value.bears) row.live [];
}

abbrev pub shown : Inside → List ScopeView
shown b = map row_shown b.rows.items

pub record Kept (b : Inside) : Type 0 where
  -- the index lists the live labels with the numbers of their scopes
  pub indexed : (label : List ℕ) → get (pointwise nat_eq) b.live label ≡ live_in (map scope_of_view (shown b)) label
  -- no two live scopes have one label
  pub found : (i : ℕ) (scope : ScopeView) → slice_get (shown b) i ≡ Some scope → scope.live ≡ true
      → live_in (map scope_of_view (shown b)) scope.label ≡ Some i
