-- The scopes as they are stored, each with the metrics that it bears. This project's own.
use Rattle.std.specs.Prelude.{ℕ, Bool, true, false, List, []}
use Rattle.book_state.specs.State.{Scope}
use Rattle.book_state.specs.Bearing.{with_number}

-- a scope, and the numbers of the metrics that it bears
pub record ScopeView : Type 0 where
  pub label : List ℕ
  pub prefix : List ℕ
  pub live : Bool
  pub bears : List ℕ

abbrev pub scope_of_view : ScopeView → Scope
scope_of_view scope = record { label = scope.label; prefix = scope.prefix; live = scope.live }

abbrev pub opened : List ℕ → List ℕ → ScopeView
opened label prefix = record { label = label; prefix = prefix; live = true; bears = [] }

-- a released scope is dead and bears nothing
abbrev pub emptied : ScopeView → ScopeView
emptied scope = record scope { live = false; bears = [] }

-- a scope that bears this metric besides, once
abbrev pub bearing : ℕ → ScopeView → ScopeView
bearing metric scope = record scope { bears = with_number metric scope.bears }
