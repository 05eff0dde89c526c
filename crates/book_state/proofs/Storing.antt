-- What is stored after each entry.
use Rattle.std.proofs.Common.{◌≡◌, ◌≢◌, ℕ, zero, suc, ◌+◌, ◌<◌, ◌≤◌, ◌^◌, ◌||◌, ◌&&◌, not, nat_eq, nat_le, Bool, true, false, cond, Option, Some, None, List, [], ◌∷◌, ◌++◌, map, length, slice_get, All, refl, ap, sym, ◌∙◌, subst, arith, inl, inr, ◌⊎◌, length-append}
use Rattle.std.proofs.lemmas.List.{length-map, map_push}
use Rattle.std.proofs.lemmas.List.Elements.{All-push}
use Rattle.std.specs.List.{list_all}
use Rattle.std.specs.Option.{option_map, option_map_or}
use Rattle.stat_defs.specs.Names.{IsScopePrefix}
use Rattle.stat_defs.specs.declared.ids.Mode.{Mode}
use Rattle.stat_defs.specs.declared.metrics.Metric.{Metric}
use Rattle.stat_defs.specs.declared.metrics.Life.{Life}
use Rattle.stat_defs.specs.declared.metrics.Life.TheVariants.{Live, Retired, Gone}
use Rattle.book_state.specs.declared.metrics.MetricRow.{MetricRow}
use Rattle.book_state.specs.State.{Scope, Row, Seat, State, bears, metrics_of, all_acknowledged}
use Rattle.book_state.specs.Step.{change_at, closed, released, found, overdue, swept}
use Rattle.book_state.specs.Bearing.{has, NoDoubles, bears_at}
use Rattle.book_state.specs.RunState.{IsRunState}
use Rattle.book_state.specs.Scopes.{ScopeView, scope_of_view, opened, emptied, bearing}
use Rattle.book_state.specs.Metrics.{metric_of, stored, change_all, lose, found_again, is_past, is_overdue, swept_row}
use Rattle.book_state.specs.Stored.{Stored, IsStored, BearsListed, IsAlike, seat_stored, has_passed}
use Rattle.book_state.proofs.Lists.{eq_or, some_same, not_true, get_push_last, get_push_before, map_some, get_change_same, get_change_other, length-change_at, map-change_at, all_change}
use Rattle.book_state.proofs.LiveScopes.{shown_bearing}
use Rattle.book_state.proofs.Moves.{live_within}
use Rattle.book_state.proofs.Members.{any_push}
use Rattle.book_state.proofs.Finds.{bearers_apart, bearer_new}
use Rattle.book_state.proofs.Releasing.{released_all, bears_at_other, bears_at_gone, same_number, other_number}

or_true : (a : Bool) → (a || true) ≡ true
or_true true = refl
or_true false = refl

or_false : (a : Bool) → (a || false) ≡ a
or_false true = refl
or_false false = refl

-- the metrics alone
pub metrics_stored : (rows : List Row) → map metric_of (map stored rows) ≡ map (λ row. row.metric) rows
metrics_stored [] = refl
metrics_stored (row ∷ rows) = ap (λ (ms : List Metric). row.metric ∷ ms) (metrics_stored rows)

module _ (held : Stored) (s : State) (st : IsStored held s) where
  pub metrics_are : map metric_of held.metrics ≡ metrics_of s
  metrics_are = ap (map metric_of) st.metrics ∙ metrics_stored s.metrics

  pub metric_count : length held.metrics ≡ length s.metrics
  metric_count = ap length st.metrics ∙ length-map s.metrics stored

  pub scope_count : length held.scopes ≡ length s.scopes
  scope_count = sym (length-map held.scopes scope_of_view) ∙ ap length st.scopes

  pub seat_count : length held.seats ≡ length s.seats
  seat_count = ap length st.seats ∙ length-map s.seats seat_stored

  pub alike_stored : (s' : State) → IsRunState s' → IsAlike s s' → IsStored held s'
  alike_stored s' run same = record {
    run = run;
    seats = st.seats ∙ sym same.seats;
    releases = st.releases ∙ sym same.releases;
    scopes = st.scopes ∙ sym same.scopes;
    few_scopes = subst (λ (scopes : List Scope). length scopes ≤ 2 ^ 32) (sym same.scopes) st.few_scopes;
    prefixes = subst (λ (scopes : List Scope). All (λ (scope : Scope). IsScopePrefix scope.prefix) scopes) (sym same.scopes) st.prefixes;
    metrics = st.metrics ∙ ap (map stored) (sym same.metrics);
    bears = λ id scope at. let was = st.bears id scope at in record { apart = was.apart; are = λ m. was.are m ∙ ap (λ (rows : List Row). bears_at id rows m) (sym same.metrics) };
  }

  -- a metric that is borne is below the number of all
  none_bear : (n : ℕ) (o : Option Row) → ((row : Row) → o ≡ Some row → bears n row ≡ true → ⊥) → false ≡ option_map_or (bears n) o false
  none_bear n None none = refl
  none_bear n (Some row) none = sym (not_true (bears n row) (none row refl))

  module _ (label prefix : List ℕ) where
    opened_bears : (id : ℕ) (scope : ScopeView) → slice_get (held.scopes ++ opened label prefix ∷ []) id ≡ Some scope → BearsListed s id scope
    opened_bears id scope at = elim (eq_or id (length held.scopes)) [
      | inl last ↦ subst (BearsListed s id) (some_same (opened label prefix) scope (sym (get_push_last held.scopes (opened label prefix) id last) ∙ at)) (record {
        apart = tt;
        are = λ metric. none_bear id (slice_get s.metrics metric) (λ row here borne.
            let below = live_within s.scopes id ((st.run.rows metric row here).live id borne) in
            absurd (omega (arith, below, last, scope_count)));
      })
      | inr before ↦ st.bears id scope (sym (get_push_before held.scopes (opened label prefix) id before) ∙ at)
    ]

    pub opened_stored : (s' : State) → IsRunState s' → s' ≡ record s { scopes = s.scopes ++ scope_of_view (opened label prefix) ∷ [] } → IsScopePrefix prefix → length held.scopes < 2 ^ 32
        → IsStored (record held { scopes = held.scopes ++ opened label prefix ∷ [] }) s'
    opened_stored s' run is lawful few = subst (λ (t : State). IsStored (record held { scopes = held.scopes ++ opened label prefix ∷ [] }) t) (sym is) (record {
      run = subst IsRunState is run;
      seats = st.seats;
      releases = st.releases;
      scopes = map_push scope_of_view held.scopes (opened label prefix) ∙ ap (λ (l : List Scope). l ++ scope_of_view (opened label prefix) ∷ []) st.scopes;
      few_scopes = let n = length-append s.scopes (scope_of_view (opened label prefix) ∷ []) in omega (arith, n, scope_count, few);
      prefixes = All-push (λ (scope : Scope). IsScopePrefix scope.prefix) s.scopes (scope_of_view (opened label prefix)) st.prefixes lawful;
      metrics = st.metrics;
      bears = λ id scope at. let listed = opened_bears id scope at in record { apart = listed.apart; are = listed.are };
    })

  -- a scope that is released
  module _ (id : ℕ) (scope : ScopeView) (at : slice_get held.scopes id ≡ Some scope) where
    left_apart : (k : ℕ) (other : ScopeView) → slice_get (change_at emptied id held.scopes) k ≡ Some other → NoDoubles other.bears
    left_apart k other here = elim (eq_or k id) [
      | inl e ↦
          let was = map_some emptied (slice_get held.scopes id) other (sym (get_change_same emptied id held.scopes) ∙ (ap (λ (i : ℕ). slice_get (change_at emptied id held.scopes) i) (sym e) ∙ here)) in
          subst (λ (o : ScopeView). NoDoubles o.bears) (sym was.2) tt
      | inr ne ↦ (st.bears k other (sym (get_change_other emptied id held.scopes k ne) ∙ here)).apart
    ]

    left_bears : (k : ℕ) (other : ScopeView) → slice_get (change_at emptied id held.scopes) k ≡ Some other
        → (metric : ℕ) → has metric other.bears ≡ bears_at k (map (released id (s.releases + 1)) s.metrics) metric
    left_bears k other here metric = elim (eq_or k id) [
      | inl e ↦
          let was = map_some emptied (slice_get held.scopes id) other (sym (get_change_same emptied id held.scopes) ∙ (ap (λ (i : ℕ). slice_get (change_at emptied id held.scopes) i) (sym e) ∙ here)) in
          ap (λ (o : ScopeView). has metric o.bears) was.2 ∙ sym (ap (λ (i : ℕ). bears_at i (map (released id (s.releases + 1)) s.metrics) metric) e ∙ bears_at_gone id (s.releases + 1) s.metrics metric)
      | inr ne ↦ (st.bears k other (sym (get_change_other emptied id held.scopes k ne) ∙ here)).are metric ∙ sym (bears_at_other id (s.releases + 1) k s.metrics metric ne)
    ]

    pub released_stored : (s' : State) → IsRunState s'
        → s' ≡ record s { scopes = change_at closed id s.scopes; metrics = map (released id (s.releases + 1)) s.metrics; releases = s.releases + 1 }
        → (held' : Stored) → held'.scopes ≡ change_at emptied id held.scopes → held'.metrics ≡ change_all (lose (s.releases + 1)) scope.bears held.metrics
        → held'.released ≡ held.released ++ record { 0 = id } ∷ [] → held'.seats ≡ held.seats → IsStored held' s'
    released_stored s' run is held' scopes metrics more seats = subst (λ (t : State). IsStored held' t) (sym is) (record {
      run = subst IsRunState is run;
      seats = seats ∙ st.seats;
      releases = let one = length-append held.released (record { 0 = id } ∷ []) in omega (arith, ap length more, one, st.releases);
      scopes = ap (map scope_of_view) scopes ∙ (map-change_at scope_of_view emptied closed (λ x. refl) id held.scopes ∙ ap (λ (l : List Scope). change_at closed id l) st.scopes);
      few_scopes = let n = length-change_at closed id s.scopes in omega (arith, n, st.few_scopes);
      prefixes = all_change (λ (scope : Scope). IsScopePrefix scope.prefix) closed (λ x p. p) id s.scopes st.prefixes;
      metrics = metrics ∙ (ap (λ rows. change_all (lose (s.releases + 1)) scope.bears rows) st.metrics
          ∙ released_all (s.releases + 1) id scope.bears s.metrics (st.bears id scope at).apart (st.bears id scope at).are (λ m row here. (st.run.rows m row here).apart));
      bears = λ k other here.
          let there = ap (λ (l : List ScopeView). slice_get l k) (sym scopes) ∙ here in
          record { apart = left_apart k other there; are = left_bears k other there };
    })

  -- metrics change, and their bearers stay
  pub metrics_stored_as : (s' : State) → IsRunState s' → (rows : List Row) → s' ≡ record s { metrics = rows } → (held' : List MetricRow) → held' ≡ map stored rows
      → ((k m : ℕ) → bears_at k rows m ≡ bears_at k s.metrics m) → IsStored (record held { metrics = held' }) s'
  metrics_stored_as s' run rows is held' metrics same = subst (λ (t : State). IsStored (record held { metrics = held' }) t) (sym is) (record {
    run = subst IsRunState is run;
    seats = st.seats;
    releases = st.releases;
    scopes = st.scopes;
    few_scopes = st.few_scopes;
    prefixes = st.prefixes;
    metrics = metrics;
    bears = λ id scope at. let was = st.bears id scope at in record { apart = was.apart; are = λ m. was.are m ∙ sym (same id m) };
  })

  -- a seat changes
  pub seats_stored_as : (s' : State) → IsRunState s' → (seats : List Seat) → s' ≡ record s { seats = seats } → (held' : List (ℕ × Bool)) → held' ≡ map seat_stored seats → IsStored (record held { seats = held' }) s'
  seats_stored_as s' run seats is held' same = subst (λ (t : State). IsStored (record held { seats = held' }) t) (sym is) (record {
    run = subst IsRunState is run;
    seats = same;
    releases = st.releases;
    scopes = st.scopes;
    few_scopes = st.few_scopes;
    prefixes = st.prefixes;
    metrics = st.metrics;
    bears = λ id scope at. let was = st.bears id scope at in record { apart = was.apart; are = was.are };
  })

  -- a scope bears a metric besides
  module _ (sc m : ℕ) (rows : List Row) (this : bears_at sc rows m ≡ true) (others : (k i : ℕ) → (k ≢ sc) → bears_at k rows i ≡ bears_at k s.metrics i) (same : (i : ℕ) → i ≢ m → bears_at sc rows i ≡ bears_at sc s.metrics i) where
    with_one : (i : ℕ) (ks : List ℕ) (t : Bool) → has m ks ≡ t → has i (cond t ks (ks ++ m ∷ [])) ≡ (has i ks || nat_eq i m)
    with_one i ks true e = by_eq (eq_or i m) where
      by_eq : (i ≡ m) ⊎ (i ≢ m) → has i ks ≡ (has i ks || nat_eq i m)
      by_eq (inl is) = ap (λ (j : ℕ). has j ks) is ∙ (e ∙ sym (ap (λ (j : ℕ). has j ks || nat_eq j m) is ∙ rw (e) refl))
      by_eq (inr ne) = rw (other_number i m ne) (sym (or_false (has i ks)))
    with_one i ks false e = any_push (nat_eq i) ks m

    one_are : (scope : ScopeView) → BearsListed s sc scope → (i : ℕ) → has i (bearing m scope).bears ≡ bears_at sc rows i
    one_are scope was i = with_one i scope.bears (has m scope.bears) refl ∙ by_eq (eq_or i m) where
      by_eq : (i ≡ m) ⊎ (i ≢ m) → (has i scope.bears || nat_eq i m) ≡ bears_at sc rows i
      by_eq (inl is) = ap (λ (j : ℕ). has j scope.bears || nat_eq j m) is ∙ (rw (same_number m) (or_true (has m scope.bears)) ∙ sym (ap (λ (j : ℕ). bears_at sc rows j) is ∙ this))
      by_eq (inr ne) = rw (other_number i m ne) (or_false (has i scope.bears)) ∙ (was.are i ∙ sym (same i ne))

    pub borne_listed : (k : ℕ) (scope : ScopeView) → slice_get (change_at (bearing m) sc held.scopes) k ≡ Some scope → (t : State) → t.metrics ≡ rows → BearsListed t k scope
    borne_listed k scope here t is = elim (eq_or k sc) [
      | inl e ↦
          let was = map_some (bearing m) (slice_get held.scopes sc) scope (sym (get_change_same (bearing m) sc held.scopes) ∙ (ap (λ (i : ℕ). slice_get (change_at (bearing m) sc held.scopes) i) (sym e) ∙ here)) in
          let listed = st.bears sc was.0 was.1 in
          record {
            apart = subst (λ (o : ScopeView). NoDoubles o.bears) (sym was.2) (bearers_apart m was.0.bears (has m was.0.bears) refl listed.apart);
            are = λ i. ap (λ (o : ScopeView). has i o.bears) was.2 ∙ (one_are was.0 listed i ∙ (ap (λ (j : ℕ). bears_at j rows i) (sym e) ∙ ap (λ (l : List Row). bears_at k l i) (sym is)));
          }
      | inr ne ↦
          let listed = st.bears k scope (sym (get_change_other (bearing m) sc held.scopes k ne) ∙ here) in
          record { apart = listed.apart; are = λ i. listed.are i ∙ (sym (others k i ne) ∙ ap (λ (l : List Row). bears_at k l i) (sym is)) }
    ]

    pub borne_stored : (s' : State) → IsRunState s' → s'.scopes ≡ s.scopes → s'.metrics ≡ rows → s'.releases ≡ s.releases → map seat_stored s'.seats ≡ map seat_stored s.seats
        → (metrics : List MetricRow) → metrics ≡ map stored rows → IsStored (record held { scopes = change_at (bearing m) sc held.scopes; metrics = metrics }) s'
    borne_stored s' run scopes is releases seats metrics stored_as = record {
      run = run;
      seats = st.seats ∙ sym seats;
      releases = st.releases ∙ sym releases;
      scopes = shown_bearing m sc held.scopes ∙ (st.scopes ∙ sym scopes);
      few_scopes = subst (λ (l : List Scope). length l ≤ 2 ^ 32) (sym scopes) st.few_scopes;
      prefixes = subst (λ (l : List Scope). All (λ (scope : Scope). IsScopePrefix scope.prefix) l) (sym scopes) st.prefixes;
      metrics = stored_as ∙ ap (map stored) (sym is);
      bears = λ k scope at. borne_listed k scope at s' is;
    }

-- a change at one place
map_change_here : {X Y : Type 0} (g : X → Y) (f : X → X) (h : Y → Y) (i : ℕ) (xs : List X) → ((x : X) → slice_get xs i ≡ Some x → g (f x) ≡ h (g x)) → map g (change_at f i xs) ≡ change_at h i (map g xs)
map_change_here g f h i [] e = refl
map_change_here g f h zero (x ∷ xs) e = ap (λ y. y ∷ map g xs) (e x refl)
map_change_here g f h (suc i) (x ∷ xs) e = ap (λ ys. g x ∷ ys) (map_change_here g f h i xs e)

found_row : (sc : ℕ) (mode : Mode) (row : Row) (t : Bool) → bears sc row ≡ t → stored (found sc mode row) ≡ found_again mode (not t) (stored row)
found_row sc mode row true e = rw e refl
found_row sc mode row false e = let n = length-append row.bearers (sc ∷ []) in rw (e, n) refl

bears_found : (k sc : ℕ) (mode : Mode) (row : Row) (t : Bool) → k ≢ sc → has k (cond t row.bearers (row.bearers ++ sc ∷ [])) ≡ bears k row
bears_found k sc mode row true ne = refl
bears_found k sc mode row false ne = any_push (nat_eq k) row.bearers sc ∙ (ap (λ (b : Bool). has k row.bearers || b) (other_number k sc ne) ∙ or_false (has k row.bearers))

module _ (rows : List Row) (sc id : ℕ) (mode : Mode) where
  pub found_rows : (new : Bool) → ((row : Row) → slice_get rows id ≡ Some row → new ≡ not (bears sc row)) → change_at (found_again mode new) id (map stored rows) ≡ map stored (change_at (found sc mode) id rows)
  found_rows new is = sym (map_change_here stored (found sc mode) (found_again mode new) id rows (λ row at.
      found_row sc mode row (bears sc row) refl ∙ ap (λ (b : Bool). found_again mode b (stored row)) (sym (is row at))))

  pub found_this : (row : Row) → slice_get rows id ≡ Some row → bears_at sc (change_at (found sc mode) id rows) id ≡ true
  found_this row at = ap (λ (o : Option Row). option_map_or (bears sc) o false) (get_change_same (found sc mode) id rows ∙ ap (option_map (found sc mode)) at) ∙ bearer_new sc row.bearers (bears sc row) refl

  pub found_same : (i : ℕ) → i ≢ id → bears_at sc (change_at (found sc mode) id rows) i ≡ bears_at sc rows i
  found_same i ne = ap (λ (o : Option Row). option_map_or (bears sc) o false) (get_change_other (found sc mode) id rows i ne)

  found_at : (k : ℕ) (o : Option Row) → k ≢ sc → option_map_or (bears k) (option_map (found sc mode) o) false ≡ option_map_or (bears k) o false
  found_at k None ne = refl
  found_at k (Some row) ne = bears_found k sc mode row (bears sc row) ne

  pub found_others : (k i : ℕ) → k ≢ sc → bears_at k (change_at (found sc mode) id rows) i ≡ bears_at k rows i
  found_others k i ne = elim (eq_or i id) [
    | inl is ↦ ap (λ (j : ℕ). bears_at k (change_at (found sc mode) id rows) j) is
        ∙ (ap (λ (o : Option Row). option_map_or (bears k) o false) (get_change_same (found sc mode) id rows) ∙ (found_at k (slice_get rows id) ne ∙ ap (λ (j : ℕ). bears_at k rows j) (sym is)))
    | inr other ↦ ap (λ (o : Option Row). option_map_or (bears k) o false) (get_change_other (found sc mode) id rows i other)
  ]

get_none : {X : Type 0} (xs : List X) (i : ℕ) → i ≡ length xs → slice_get xs i ≡ None
get_none [] i e = refl
get_none (x ∷ xs) zero e = absurd (omega (arith, e))
get_none (x ∷ xs) (suc i) e = get_none xs i (omega (arith, e))

module _ (rows : List Row) (row : Row) (sc : ℕ) (one : row.bearers ≡ sc ∷ []) where
  pub made_this : bears_at sc (rows ++ row ∷ []) (length rows) ≡ true
  made_this = ap (λ (o : Option Row). option_map_or (bears sc) o false) (get_push_last rows row (length rows) refl) ∙ (ap (has sc) one ∙ rw (same_number sc) refl)

  pub made_same : (i : ℕ) → i ≢ length rows → bears_at sc (rows ++ row ∷ []) i ≡ bears_at sc rows i
  made_same i ne = ap (λ (o : Option Row). option_map_or (bears sc) o false) (get_push_before rows row i ne)

  pub made_others : (k i : ℕ) → k ≢ sc → bears_at k (rows ++ row ∷ []) i ≡ bears_at k rows i
  made_others k i ne = elim (eq_or i (length rows)) [
    | inl is ↦ ap (λ (o : Option Row). option_map_or (bears k) o false) (get_push_last rows row i is)
        ∙ (ap (has k) one ∙ (rw (other_number k sc ne) refl ∙ ap (λ (o : Option Row). option_map_or (bears k) o false) (sym (get_none rows i is))))
    | inr other ↦ ap (λ (o : Option Row). option_map_or (bears k) o false) (get_push_before rows row i other)
  ]

-- bearers stay where a metric alone changes
pub text_bears : (text : List ℕ) (id : ℕ) (rows : List Row) (k m : ℕ) → bears_at k (change_at (λ row. record row { metric = record row.metric { text = text } }) id rows) m ≡ bears_at k rows m
text_bears text id [] k m = refl
text_bears text zero (row ∷ rows) k zero = refl
text_bears text zero (row ∷ rows) k (suc m) = refl
text_bears text (suc id) (row ∷ rows) k zero = refl
text_bears text (suc id) (row ∷ rows) k (suc m) = text_bears text id rows k m

swept_bearers : (seats : List Seat) (row : Row) (t : Bool) → (cond t (record row { metric = record row.metric { life = Gone } }) row).bearers ≡ row.bearers
swept_bearers seats row true = refl
swept_bearers seats row false = refl

pub swept_bears : (seats : List Seat) (rows : List Row) (k m : ℕ) → bears_at k (map (swept seats) rows) m ≡ bears_at k rows m
swept_bears seats [] k m = refl
swept_bears seats (row ∷ rows) k zero = ap (has k) (swept_bearers seats row (overdue seats row.metric.life))
swept_bears seats (row ∷ rows) k (suc m) = swept_bears seats rows k m

-- the least tag stands for all
pub all_stored : (release : ℕ) (seats : List Seat) → list_all (has_passed release) (map seat_stored seats) ≡ all_acknowledged seats release
all_stored release [] = refl
all_stored release (seat ∷ seats) = ap (λ (b : Bool). (seat.ended || nat_le release seat.tag) && b) (all_stored release seats)

module _ (least : Option ℕ) (seats : List Seat) (is : (release : ℕ) → is_past least release ≡ all_acknowledged seats release) where
  pub overdue_is : (l : Life) → is_overdue least l ≡ overdue seats l
  overdue_is Live = refl
  overdue_is (Retired release) = is release
  overdue_is Gone = refl

  swept_case : (row : Row) (t : Bool) → cond t (record (stored row) { metric = record row.metric { life = Gone } }) (stored row) ≡ stored (cond t (record row { metric = record row.metric { life = Gone } }) row)
  swept_case row true = refl
  swept_case row false = refl

  pub swept_rows : (rows : List Row) → map (swept_row least) (map stored rows) ≡ map stored (map (swept seats) rows)
  swept_rows [] = refl
  swept_rows (row ∷ rows) =
      let head : swept_row least (stored row) ≡ stored (swept seats row) = rw (overdue_is row.metric.life) (swept_case row (overdue seats row.metric.life)) in
      let tail : map (swept_row least) (map stored rows) ≡ map stored (map (swept seats) rows) = swept_rows rows in cc
