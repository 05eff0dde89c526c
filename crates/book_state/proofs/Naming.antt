-- What is read of a stored state: full names, tags, and the state before the first entry.
use Rattle.std.proofs.Common.{◌≡◌, ℕ, zero, suc, ◌-◌, ◌+◌, ◌&&◌, Bool, true, false, Option, Some, None, unwrap_or, List, [], ◌∷◌, cond, map, length, slice_get, replicate, refl, ap, sym, ◌∙◌, subst, arith, length-append}
use Rattle.std.proofs.lemmas.List.{length-replicate}
use Rattle.std.proofs.lemmas.List.Folds.{list_all-append}
use Rattle.std.proofs.lemmas.List.Elements.{All-nil}
use Rattle.std.specs.Option.{option_map, option_map_or, IsSomeAnd}
use Rattle.stat_defs.specs.Names.{IsScopePrefix, IsLocalName, IsFullName, full, is_name_byte}
use Rattle.stat_defs.specs.declared.events.Key.{Key}
use Rattle.stat_defs.specs.declared.ids.MetricId.{MetricId}
use Rattle.stat_defs.specs.declared.metrics.Metric.{Metric}
use Rattle.stat_defs.specs.declared.history.Reply.{Reply}
use Rattle.stat_defs.specs.declared.history.Reply.TheVariants as reply
use Rattle.book_state.specs.declared.seats.SeatRow.{SeatRow}
use Rattle.book_state.specs.State.{Scope, Seat, State, live_in, live_scope, ids_from}
use Rattle.book_state.specs.Finding.{scope_of, name_of}
use Rattle.book_state.specs.Step.{Works}
use Rattle.book_state.specs.Follows.{tag_of}
use Rattle.book_state.specs.Log.{empty}
use Rattle.book_state.specs.Scopes.{ScopeView, scope_of_view}
use Rattle.book_state.specs.Stored.{Stored, IsStored, MakesOf, numbers_in, seat_row, seat_stored}
use Rattle.book_state.proofs.Lists.{not_some, some_at, get_map, all_at, map-replicate}
use Rattle.book_state.proofs.LiveScopes.{scope_at}
use Rattle.book_state.proofs.Safety.{empty_run}

pub full_is_full : (prefix name : List ℕ) → IsScopePrefix prefix → IsLocalName name → IsFullName (full prefix name)
full_is_full [] name scope named = record { not_empty = named.not_empty; short = omega (arith, named.short); bytes = named.bytes }
full_is_full (b ∷ bs) name scope named = record {
  not_empty = omega (arith, length-append (b ∷ bs) (46 ∷ name));
  short = omega (arith, scope.short, named.short, length-append (b ∷ bs) (46 ∷ name));
  bytes = list_all-append is_name_byte (b ∷ bs) (46 ∷ name) ∙ (λ i. scope.bytes i && named.bytes i);
}

module _ (held : Stored) (s : State) (st : IsStored held s) (key : Key) (sc : ℕ) (live : live_scope s key.label ≡ Some sc) where
  was : (scope : ScopeView) × (slice_get held.scopes sc ≡ Some scope) × (scope.live ≡ true) × (scope.label ≡ key.label)
  was = scope_at held.scopes key.label sc (ap (λ (l : List Scope). live_in l key.label) st.scopes ∙ live)

  pub scope_lives : IsSomeAnd (slice_get held.scopes sc) (λ (scope : ScopeView). scope.live ≡ true)
  scope_lives = subst (λ (o : Option ScopeView). IsSomeAnd o (λ (scope : ScopeView). scope.live ≡ true)) (sym was.1) was.2

  in_state : slice_get s.scopes sc ≡ Some (scope_of_view was.0)
  in_state = ap (λ (l : List Scope). slice_get l sc) (sym st.scopes) ∙ (get_map scope_of_view held.scopes sc ∙ ap (option_map scope_of_view) was.1)

  module _ (prefix : List ℕ) (is : IsSomeAnd (slice_get held.scopes sc) (λ scope. scope.prefix ≡ prefix)) where
    same : was.0.prefix ≡ prefix
    same = some_at (λ (scope : ScopeView). scope.prefix ≡ prefix) (slice_get held.scopes sc) was.0 was.1 is

    pub prefix_lawful : IsScopePrefix prefix
    prefix_lawful = subst IsScopePrefix same (all_at (λ (scope : Scope). IsScopePrefix scope.prefix) s.scopes sc (scope_of_view was.0) st.prefixes in_state)

    pub name_is : full prefix key.name ≡ name_of s key
    name_is =
        let at : slice_get s.scopes (scope_of s key) ≡ Some (scope_of_view was.0) = ap (λ (o : Option ℕ). slice_get s.scopes (unwrap_or o 0)) live ∙ in_state in
        sym (ap (λ (o : Option Scope). full (option_map_or (λ scope. scope.prefix) o []) key.name) at ∙ ap (λ (p : List ℕ). full p key.name) same)

-- the numbers of tests that answer the same
pub ids_same : (p q : Metric → Bool) → ((m : Metric) → p m ≡ q m) → (id : ℕ) (metrics : List Metric) → ids_from p id metrics ≡ ids_from q id metrics
ids_same p q e id [] = refl
ids_same p q e id (m ∷ ms) =
    ap (λ (b : Bool). cond b (record { 0 = id } ∷ ids_from p (id + 1) ms) (ids_from p (id + 1) ms)) (e m)
    ∙ ap (λ (rest : List MetricId). cond (q m) (record { 0 = id } ∷ rest) rest) (ids_same p q e (id + 1) ms)

-- the tag of a worker's seat
pub tag_is : (held : Stored) (s : State) → IsStored held s → (seat tag : ℕ) → Works s seat → IsSomeAnd (slice_get held.seats (seat - 1)) (λ row. row.0 ≡ tag) → tag ≡ tag_of s seat
tag_is held s st zero tag works is = absurd works
tag_is held s st (suc at) tag works is = by_row (slice_get s.seats at) refl works where
  by_row : (o : Option Seat) → slice_get s.seats at ≡ o → IsSomeAnd o (λ row. (row.ended ≡ false) × Unit {0}) → tag ≡ option_map_or (λ row. row.tag) (slice_get s.seats at) 0
  by_row None here w = absurd w
  by_row (Some row) here w =
      let e : suc at - 1 ≡ at = omega arith in
      let there : slice_get held.seats (suc at - 1) ≡ Some (seat_stored row) =
      ap (λ (i : ℕ). slice_get held.seats i) e ∙ (ap (λ (l : List (ℕ × Bool)). slice_get l at) st.seats ∙ (get_map seat_stored s.seats at ∙ ap (option_map seat_stored) here)) in
      sym (some_at (λ (row : ℕ × Bool). row.0 ≡ tag) (slice_get held.seats (suc at - 1)) (seat_stored row) there is) ∙ sym (ap (λ (o : Option Seat). option_map_or (λ row. row.tag) o 0) here)

-- the numbers that a reply has
pub makes_of : (r : Reply) → MakesOf r → (id : MetricId) × (r ≡ reply.Made id (numbers_in r))
makes_of (reply.Made id numbers) makes = (id, refl)
makes_of _ makes = absurd makes

abbrev no_tag : SeatRow
no_tag = record { tag = 0; ended = false }

pub empty_stored : (workers : ℕ) (seats : List SeatRow) → seats ≡ replicate workers no_tag
    → IsStored (record { scopes = []; metrics = []; released = []; seats = map seat_row seats }) (empty (length seats))
empty_stored workers seats are = record {
  run = empty_run (length seats);
  seats = ap (map seat_row) are ∙ (map-replicate seat_row workers no_tag ∙ sym (ap (λ (n : ℕ). map seat_stored (replicate n (record { tag = 0; held = []; ended = false }))) (ap length are ∙ length-replicate workers no_tag) ∙ map-replicate seat_stored workers (record { tag = 0; held = []; ended = false })));
  releases = refl;
  scopes = refl;
  few_scopes = omega arith;
  prefixes = All-nil (λ (scope : Scope). IsScopePrefix scope.prefix);
  metrics = refl;
  bears = λ id scope at. absurd (not_some scope at);
}
