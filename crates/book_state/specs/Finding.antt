-- What decides a find (Envoy's design note on statistics, and its configuration reference on the statistics matcher;
-- the limits and the order of the cases are this project's own).
use Rattle.std.specs.Prelude.{ℕ, ◌&&◌, nat_le, Bool, true, false, Option, Some, None, List, [], length, unwrap_or}
use Rattle.std.specs.Option.{option_map_or}
use Rattle.std.specs.List.{slice_get}
use Rattle.stat_defs.specs.declared.ids.Kind.{Kind}
use Rattle.stat_defs.specs.declared.ids.Kind.TheVariants.{Histogram}
use Rattle.stat_defs.specs.declared.events.Key.{Key}
use Rattle.stat_defs.specs.Names.{full}
use Rattle.book_state.specs.declared.limits.TheConstants.{MAX_METRICS, MAX_HISTOGRAMS}
use Rattle.book_state.specs.State.{NameRules, State, same_kind, live_scope, known, histograms_made}

-- the scope of a find: the live one of its label
abbrev pub scope_of : State → Key → ℕ
scope_of s key = unwrap_or (live_scope s key.label) 0

-- the full name that a find means
abbrev pub name_of : State → Key → List ℕ
name_of s key = full (option_map_or (λ scope. scope.prefix) (slice_get s.scopes (scope_of s key)) []) key.name

-- no more metrics can be made
abbrev pub is_full : State → Bool
is_full s = nat_le MAX_METRICS (length s.metrics)

-- no more metrics of this kind can be made
abbrev pub is_over_limit : State → Kind → Bool
is_over_limit s kind = same_kind kind Histogram && nat_le MAX_HISTOGRAMS (histograms_made s)

-- what a find comes to
pub data Outcome : Type 0 where
  -- no scope of the label is live
  NoScope : Outcome
  -- the matcher does not admit the full name
  Rejected : Outcome
  -- a metric of the kind and full name is live or retired
  Known : ℕ → Outcome
  -- as many metrics as are allowed were made
  NoRoom : Outcome
  -- as many metrics of the kind as are allowed were made
  OverLimit : Outcome
  -- the metric is made
  New : Outcome

-- The order of the cases: the first that holds decides. The columns: the live scope, whether the name is admitted, the
-- metric that is known, whether the book is full, and whether the kind's limit is reached.
abbrev pub first_case : Option ℕ → Bool → Option ℕ → Bool → Bool → Outcome
first_case None _ _ _ _ = NoScope
first_case (Some _) false _ _ _ = Rejected
first_case (Some _) true (Some id) _ _ = Known id
first_case (Some _) true None true _ = NoRoom
first_case (Some _) true None false true = OverLimit
first_case (Some _) true None false false = New

abbrev pub outcome : NameRules → State → Key → Outcome
outcome rules s key = let name = name_of s key in
    first_case (live_scope s key.label) (rules.admits name) (known s key.kind name) (is_full s)
    (is_over_limit s key.kind)
