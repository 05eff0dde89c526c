-- The rows of the table of scopes.
use Rattle.std.proofs.Common.{◌≡◌, ℕ, ◌<◌, true, List, map, length, slice_get, subst}
use Rattle.std.proofs.lemmas.List.{length-map}
use Rattle.std.specs.Option.{IsSomeAnd}
use Rattle.book_state.specs.declared.scopes.ScopeRow.{ScopeRow}
use Rattle.book_state.specs.Scopes.{ScopeView}
use Rattle.book_state.specs.ScopesKept.{row_shown}
use Rattle.book_state.proofs.Lists.{within_some}

pub row_within : (rows : List ScopeRow) (at : ℕ) → IsSomeAnd (slice_get (map row_shown rows) at) (λ (scope : ScopeView). scope.live ≡ true) → at < length rows
row_within rows at live = subst (λ (n : ℕ). at < n) (length-map rows row_shown) (within_some (map row_shown rows) at (λ (scope : ScopeView). scope.live ≡ true) live)
