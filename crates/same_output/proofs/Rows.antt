-- The rows of a kind, by the names of its metrics.
use Rattle.std.proofs.Common.{◌≡◌, ◌&&◌, ◌+◌, ℕ, suc, cond, Bool, true, false, Some, List, [], ◌∷◌, map, slice_get, refl, ap, sym, ◌∙◌, subst, arith, inl, inr}
use Rattle.std.specs.Prelude.{filter}
use Rattle.std.specs.List.{AllByRecursion, enumerate_from}
use Rattle.stat_defs.specs.declared.ids.Kind.{Kind}
use Rattle.stat_defs.specs.declared.metrics.Metric.{Metric}
use Rattle.stat_defs.specs.Keys.{same_kind}
use Rattle.book_state.specs.State.{Row, State}
use Rattle.ledger.proofs.Lists.{cons_same}
use Rattle.flush_view.specs.ByName.{comes_before, put_by_name, by_name}
use Rattle.flush_view.specs.Views.{NumberedMetric, row_name, metrics_shown}
use Rattle.all_accepted.specs.Admitted.{NamedKind}
use Rattle.all_accepted.proofs.InLists.{In, Once}
use Rattle.all_accepted.proofs.States.{pair_of, pairs_in, same_kind_is, kind_same}
use Rattle.same_output.proofs.Sorting.{itself, map_sorted, sorted_same}

pub map_as : {X Y : Type 0} (f g : X → Y) (xs : List X) → AllByRecursion (λ x. f x ≡ g x) xs → map f xs ≡ map g xs
map_as f g [] all = refl
map_as f g (x ∷ xs) all = cons_same (f x) (g x) (map f xs) (map g xs) all.0 (map_as f g xs all.1)

pub map_twice : {X Y Z : Type 0} (f : X → Y) (g : Y → Z) (xs : List X) → map (λ x. g (f x)) xs ≡ map g (map f xs)
map_twice f g [] = refl
map_twice {Z = Z} f g (x ∷ xs) = ap (λ (l : List Z). g (f x) ∷ l) (map_twice f g xs)

module _ {X : Type 0} (P : X → Type 0) (name : X → List ℕ) where
  put_all : (x : X) (ys : List X) → P x → AllByRecursion P ys → AllByRecursion P (put_by_name name x ys)
  put_all x [] one all = (one, tt)
  put_all x (y ∷ ys) one all = by_case (comes_before name y x) (put_all x ys one all.1) where
    by_case : (b : Bool) → AllByRecursion P (put_by_name name x ys) → AllByRecursion P (cond b (y ∷ put_by_name name x ys) (x ∷ y ∷ ys))
    by_case true rest = (all.0, rest)
    by_case false rest = (one, all)

  pub sorted_all : (xs : List X) → AllByRecursion P xs → AllByRecursion P (by_name name xs)
  sorted_all [] all = tt
  sorted_all (x ∷ xs) all = put_all x (by_name name xs) all.0 (sorted_all xs all.1)

module _ (kind : Kind) (passes : ℕ → Bool) where
  abbrev metrics_in : List Row → List Metric
  metrics_in rows = map (λ (row : Row). row.metric) rows

  abbrev is_shown : NumberedMetric → Bool
  is_shown numbered = same_kind numbered.1.kind kind && passes numbered.0

  abbrev shown_from : ℕ → List Row → List NumberedMetric
  shown_from n rows = filter is_shown (enumerate_from n (metrics_in rows))

  abbrev pub names_from : ℕ → List Row → List (List ℕ)
  names_from n rows = map row_name (shown_from n rows)

  abbrev pub names_shown : State → List (List ℕ)
  names_shown s = names_from 0 s.metrics

  abbrev Passes : ℕ → List Row → Type 0
  Passes n rows = (j k : ℕ) (row : Row) → k ≡ n + j → slice_get rows j ≡ Some row → passes k ≡ true

  later : (n : ℕ) (row : Row) (rows : List Row) → Passes n (row ∷ rows) → Passes (n + 1) rows
  later n row rows pass = λ j k x at there. pass (suc j) k x (omega (arith, at)) there

  from_shown : (n : ℕ) (rows : List Row) (z : List ℕ) → In (names_from n rows) z → In (map pair_of rows) (kind, z)
  from_shown n [] z is = is
  from_shown n (row ∷ rows) z is = by_case (same_kind row.metric.kind kind) (passes n) refl is (from_shown (n + 1) rows z) where
    by_case : (a b : Bool) → same_kind row.metric.kind kind ≡ a → In (map row_name (cond (a && b) ((n, row.metric) ∷ shown_from (n + 1) rows) (shown_from (n + 1) rows))) z
        → (In (names_from (n + 1) rows) z → In (map pair_of rows) (kind, z)) → In (pair_of row ∷ map pair_of rows) (kind, z)
    by_case true true same (inl here) rest = inl (let is_kind = same_kind_is row.metric.kind kind same in λ i. (is_kind i, here i))
    by_case true true same (inr there) rest = inr (rest there)
    by_case true false same there rest = inr (rest there)
    by_case false b same there rest = inr (rest there)

  to_shown : (n : ℕ) (rows : List Row) (z : List ℕ) → Passes n rows → In (map pair_of rows) (kind, z) → In (names_from n rows) z
  to_shown n [] z pass is = is
  to_shown n (row ∷ rows) z pass (inl same) =
      let is_kind : same_kind row.metric.kind kind ≡ true = ap (λ (p : NamedKind). same_kind p.0 kind) same ∙ kind_same kind in
      let passed : passes n ≡ true = pass 0 n row (omega arith) refl in
      let shown : is_shown (n, row.metric) ≡ true = ap (λ (t : Bool). t && passes n) is_kind ∙ passed in
      subst (λ (t : Bool). In (map row_name (cond t ((n, row.metric) ∷ shown_from (n + 1) rows) (shown_from (n + 1) rows))) z) (sym shown) (inl (ap (λ (p : NamedKind). p.1) same))
  to_shown n (row ∷ rows) z pass (inr there) = by_case (is_shown (n, row.metric)) (to_shown (n + 1) rows z (later n row rows pass) there) where
    by_case : (t : Bool) → In (names_from (n + 1) rows) z → In (map row_name (cond t ((n, row.metric) ∷ shown_from (n + 1) rows) (shown_from (n + 1) rows))) z
    by_case true rest = inr rest
    by_case false rest = rest

  once_shown : (n : ℕ) (rows : List Row) → Once (map pair_of rows) → Once (names_from n rows)
  once_shown n [] once = tt
  once_shown n (row ∷ rows) once = by_case (same_kind row.metric.kind kind) (passes n) refl (once_shown (n + 1) rows once.1) where
    by_case : (a b : Bool) → same_kind row.metric.kind kind ≡ a → Once (names_from (n + 1) rows)
        → Once (map row_name (cond (a && b) ((n, row.metric) ∷ shown_from (n + 1) rows) (shown_from (n + 1) rows)))
    by_case true true same rest = (
      (λ is. once.0 (let is_kind = same_kind_is row.metric.kind kind same in subst (λ (k : Kind). In (map pair_of rows) (k, row.metric.name)) (sym is_kind) (from_shown (n + 1) rows row.metric.name is))),
      rest,
    )
    by_case true false same rest = rest
    by_case false b same rest = rest

  all_shown : (Q : NumberedMetric → Type 0) (n : ℕ) (rows : List Row)
      → ((j k : ℕ) (row : Row) → k ≡ n + j → slice_get rows j ≡ Some row → same_kind row.metric.kind kind ≡ true → Q (k, row.metric))
      → AllByRecursion Q (shown_from n rows)
  all_shown Q n [] each = tt
  all_shown Q n (row ∷ rows) each =
      by_case (same_kind row.metric.kind kind) (passes n) refl (all_shown Q (n + 1) rows (λ j k x at there is. each (suc j) k x (omega (arith, at)) there is)) where
        by_case : (a b : Bool) → same_kind row.metric.kind kind ≡ a → AllByRecursion Q (shown_from (n + 1) rows)
            → AllByRecursion Q (cond (a && b) ((n, row.metric) ∷ shown_from (n + 1) rows) (shown_from (n + 1) rows))
        by_case true true same rest = (each 0 n row (omega arith) refl same, rest)
        by_case true false same rest = rest
        by_case false b same rest = rest

  -- the rows of a kind are those of its names in their order, where a row is told by its name
  pub rows_by_name : {Y : Type 0} (f : NumberedMetric → Y) (row_of : List ℕ → Y) (s : State)
      → ((id : ℕ) (row : Row) → slice_get s.metrics id ≡ Some row → same_kind row.metric.kind kind ≡ true → f (id, row.metric) ≡ row_of row.metric.name)
      → map f (metrics_shown kind passes s) ≡ map row_of (by_name itself (names_shown s))
  rows_by_name {Y} f row_of s told =
      let shown : List NumberedMetric = metrics_shown kind passes s in
      map_as f (λ numbered. row_of (row_name numbered)) shown
      (sorted_all (λ (numbered : NumberedMetric). f numbered ≡ row_of (row_name numbered)) row_name (shown_from 0 s.metrics)
      (all_shown (λ (numbered : NumberedMetric). f numbered ≡ row_of (row_name numbered)) 0 s.metrics
      (λ j k row at there is. let same : k ≡ j = omega (arith, at) in told k row (ap (λ (i : ℕ). slice_get s.metrics i) same ∙ there) is)))
      ∙ map_twice row_name row_of shown
      ∙ ap (λ (l : List (List ℕ)). map row_of l) (map_sorted row_name (shown_from 0 s.metrics))

-- two books with the same kinds and names show the same names of a kind
pub names_same : (kind : Kind) (passes others : ℕ → Bool) (s t : State) → Once (pairs_in s) → Once (pairs_in t)
    → ((id : ℕ) (row : Row) → slice_get s.metrics id ≡ Some row → passes id ≡ true) → ((id : ℕ) (row : Row) → slice_get t.metrics id ≡ Some row → others id ≡ true)
    → ((n : NamedKind) → In (pairs_in s) n → In (pairs_in t) n) → ((n : NamedKind) → In (pairs_in t) n → In (pairs_in s) n)
    → by_name itself (names_shown kind passes s) ≡ by_name itself (names_shown kind others t)
names_same kind passes others s t one other pass pass_other to from =
    sorted_same (names_shown kind passes s) (names_shown kind others t) (once_shown kind passes 0 s.metrics one) (once_shown kind others 0 t.metrics other)
    (λ z is. to_shown kind others 0 t.metrics z (λ j k row at there. let same : k ≡ j = omega (arith, at) in pass_other k row (ap (λ (i : ℕ). slice_get t.metrics i) same ∙ there)) (to (kind, z) (from_shown kind passes 0 s.metrics z is)))
    (λ z is. to_shown kind passes 0 s.metrics z (λ j k row at there. let same : k ≡ j = omega (arith, at) in pass k row (ap (λ (i : ℕ). slice_get s.metrics i) same ∙ there)) (from (kind, z) (from_shown kind others 0 t.metrics z is)))
