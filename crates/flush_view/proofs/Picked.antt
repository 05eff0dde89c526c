-- Metrics that are picked of all in their order are the picked ones in order.
use Rattle.std.proofs.Common.{◌≡◌, ℕ, suc, ◌+◌, ◌<◌, ◌≤◌, ◌&&◌, Bool, true, false, cond, List, [], ◌∷◌, ◌++◌, map, filter, length, refl, ap, sym, ◌∙◌, arith}
use Rattle.std.specs.List.{enumerate_from, flat_map, AllByRecursion}
use Rattle.std.specs.List.Sorted.{IsSortedBy, ties}
use Rattle.std.proofs.lemmas.Cmp.{nat_list_cmp_total}
use Rattle.std.proofs.lemmas.List.Elements.{filter-append}
use Rattle.std.proofs.lemmas.List.Kept.{IsSortedBy-filter}
use Rattle.std.proofs.lemmas.List.Sorted.{ranks_by}
use Rattle.stat_defs.specs.declared.ids.Kind.{Kind}
use Rattle.stat_defs.specs.declared.metrics.Metric.{Metric}
use Rattle.stat_defs.specs.Keys.{same_kind}
use Rattle.book_state.specs.State.{State, metrics_of}
use Rattle.book_state.proofs.Lists.{true_false}
use Rattle.ledger.proofs.Lists.{cons_same}
use Rattle.flush_view.specs.ByName.{comes_before, put_by_name, by_name}
use Rattle.flush_view.specs.Views.{NumberedMetric, row_name, numbered_metrics, metrics_shown}
use Rattle.flush_view.specs.Symbols.{is_live_life, live_of_kind, live_metrics, kinds}
use Rattle.flush_view.specs.Named.{live_in}
use Rattle.flush_view.specs.Rows.{picked}
use Rattle.flush_view.proofs.Ordered.{in_order}

module _ {X : Type 0} where
  filter_one : (p : X → Bool) (b : Bool) (x : X) (xs : List X)
      → filter p (cond b (x ∷ xs) xs) ≡ cond b (cond (p x) (x ∷ filter p xs) (filter p xs)) (filter p xs)
  filter_one p true x xs = refl
  filter_one p false x xs = refl

  tests_turned : (a b : Bool) (x : X) (xs : List X) → cond a (cond b (x ∷ xs) xs) xs ≡ cond b (cond a (x ∷ xs) xs) xs
  tests_turned true true x xs = refl
  tests_turned true false x xs = refl
  tests_turned false true x xs = refl
  tests_turned false false x xs = refl

  filter_turned : (p q : X → Bool) (xs : List X) → filter p (filter q xs) ≡ filter q (filter p xs)
  filter_turned p q [] = refl
  filter_turned p q (x ∷ xs) =
      filter_one p (q x) x (filter q xs)
      ∙ tests_turned (q x) (p x) x (filter p (filter q xs))
      ∙ ap (λ (l : List X). cond (p x) (cond (q x) (x ∷ l) l) l) (filter_turned p q xs)
      ∙ sym (filter_one q (p x) x (filter p xs))

  module _ (name : X → List ℕ) where
    abbrev lt : X → X → Bool
    lt x y = comes_before name x y

    -- lists that differ in the order of names alone have one order
    same_order : (xs ys : List X) → ((z : X) → filter (ties lt z) xs ≡ filter (ties lt z) ys)
        → by_name name xs ≡ by_name name ys
    same_order xs ys same =
        (in_order name).only ys (by_name name xs) ((in_order name).sorted xs)
        (λ z. (in_order name).stable xs z ∙ same z)

    -- the members that pass, in their order
    by_name-filter : (p : X → Bool) (xs : List X) → filter p (by_name name xs) ≡ by_name name (filter p xs)
    by_name-filter p xs =
        (in_order name).only (filter p xs) (filter p (by_name name xs))
        (IsSortedBy-filter lt (ranks_by nat_list_cmp_total name) p (by_name name xs) ((in_order name).sorted xs))
        (λ z.
        filter_turned (ties lt z) p (by_name name xs)
        ∙ ap (filter p) ((in_order name).stable xs z)
        ∙ filter_turned p (ties lt z) xs)

    filter_lists : {K : Type 0} (p : X → Bool) (f g : K → List X) (ks : List K)
        → ((k : K) → filter p (f k) ≡ filter p (g k))
        → filter p (flat_map f ks) ≡ filter p (flat_map g ks)
    filter_lists p f g [] same = refl
    filter_lists p f g (k ∷ ks) same =
        filter-append p (f k) (flat_map f ks)
        ∙ (λ i. same k i ++ filter_lists p f g ks same i)
        ∙ sym (filter-append p (g k) (flat_map g ks))

-- members that are seen in another way
module _ {X Y : Type 0} (f : X → Y) (name : Y → List ℕ) where
  map-put : (x : X) (xs : List X) → map f (put_by_name (λ z. name (f z)) x xs) ≡ put_by_name name (f x) (map f xs)
  map-put x [] = refl
  map-put x (y ∷ ys) = by_case (comes_before name (f y) (f x)) (map-put x ys) where
    by_case : (b : Bool) → map f (put_by_name (λ z. name (f z)) x ys) ≡ put_by_name name (f x) (map f ys)
        → map f (cond b (y ∷ put_by_name (λ z. name (f z)) x ys) (x ∷ y ∷ ys))
        ≡ cond b (f y ∷ put_by_name name (f x) (map f ys)) (f x ∷ f y ∷ map f ys)
    by_case true rest = ap (λ (l : List Y). f y ∷ l) rest
    by_case false rest = refl

  pub map-by_name : (xs : List X) → map f (by_name (λ z. name (f z)) xs) ≡ by_name name (map f xs)
  map-by_name [] = refl
  map-by_name (x ∷ xs) = map-put x (by_name (λ z. name (f z)) xs) ∙ ap (put_by_name name (f x)) (map-by_name xs)

  map-filter : (p : Y → Bool) (xs : List X) → map f (filter (λ x. p (f x)) xs) ≡ filter p (map f xs)
  map-filter p [] = refl
  map-filter p (x ∷ xs) = by_case (p (f x)) (map-filter p xs) where
    by_case : (b : Bool) → map f (filter (λ x. p (f x)) xs) ≡ filter p (map f xs)
        → map f (cond b (x ∷ filter (λ x. p (f x)) xs) (filter (λ x. p (f x)) xs))
        ≡ cond b (f x ∷ filter p (map f xs)) (filter p (map f xs))
    by_case true rest = ap (λ (l : List Y). f x ∷ l) rest
    by_case false rest = rest

-- a stable sort by names is the one order
pub sorted_by_name : {X : Type 0} (name : X → List ℕ) (xs ys : List X) → IsSortedBy (lt name) ys
    → ((z : X) → filter (ties (lt name) z) ys ≡ filter (ties (lt name) z) xs) → ys ≡ by_name name xs
sorted_by_name name xs ys sorted stable = (in_order name).only xs ys sorted stable

-- all metrics in their order show those of a kind that pass
pub metrics_picked : (kind : Kind) (passes : ℕ → Bool) (s : State)
    → picked kind passes (by_name row_name (numbered_metrics s)) ≡ metrics_shown kind passes s
metrics_picked kind passes s =
    by_name-filter row_name (λ numbered. same_kind numbered.1.kind kind && passes numbered.0) (numbered_metrics s)

abbrev metric_in : NumberedMetric → Metric
metric_in numbered = numbered.1

pub enumerate_from-push : {X : Type 0} (id : ℕ) (xs : List X) (x : X)
    → enumerate_from id (xs ++ x ∷ []) ≡ enumerate_from id xs ++ (id + length xs, x) ∷ []
enumerate_from-push {X} id [] x = let same : id ≡ id + 0 =
    omega arith in ap (λ (n : ℕ). (let one : List (ℕ × X) = (n, x) ∷ [] in one)) same
enumerate_from-push {X} id (y ∷ xs) x =
    let same : id + 1 + length xs ≡ id + suc (length xs) = omega arith in
    ap (λ (l : List (ℕ × X)). (id, y) ∷ l)
    (enumerate_from-push (id + 1) xs x ∙ ap (λ n. enumerate_from (id + 1) xs ++ (n, x) ∷ []) same)

unnumbered : (id : ℕ) (metrics : List Metric) → map metric_in (enumerate_from id metrics) ≡ metrics
unnumbered id [] = refl
unnumbered id (metric ∷ metrics) = ap (λ (l : List Metric). metric ∷ l) (unnumbered (id + 1) metrics)

abbrev is_live_of : Kind → Metric → Bool
is_live_of kind metric = is_live_life metric.life && same_kind metric.kind kind

live_sorted : (s : State) (kind : Kind)
    → live_in (by_name row_name (numbered_metrics s)) kind ≡ by_name (λ metric. metric.name) (live_of_kind s kind)
live_sorted s kind =
    map-filter metric_in (λ metric. metric.name) (is_live_of kind) (by_name row_name (numbered_metrics s))
    ∙ ap (filter (is_live_of kind)) (map-by_name metric_in (λ metric. metric.name) (numbered_metrics s))
    ∙ by_name-filter (λ metric. metric.name) (is_live_of kind) (map metric_in (numbered_metrics s))
    ∙ ap (λ (l : List Metric). by_name (λ metric. metric.name) (filter (is_live_of kind) l))
    (unnumbered 0 (metrics_of s))

-- those of all metrics in their order that are live, kind by kind, are in one order the live metrics
pub live_are : (s : State)
    → by_name (λ metric. metric.name) (flat_map (live_in (by_name row_name (numbered_metrics s))) kinds)
    ≡ live_metrics s
live_are s = same_order (λ metric. metric.name) _ _ (λ z.
    filter_lists (λ metric. metric.name) (ties (lt (λ (metric : Metric). metric.name)) z)
    (live_in (by_name row_name (numbered_metrics s))) (live_of_kind s) kinds (λ kind.
    ap (filter (ties (lt (λ (metric : Metric). metric.name)) z)) (live_sorted s kind)
    ∙ (in_order (λ (metric : Metric). metric.name)).stable (live_of_kind s kind) z))

module _ (P : NumberedMetric → Type 0) where
  put_all : (x : NumberedMetric) (ys : List NumberedMetric) → P x → AllByRecursion P ys
      → AllByRecursion P (put_by_name row_name x ys)
  put_all x [] one all = (one, tt)
  put_all x (y ∷ ys) one all = by_case (comes_before row_name y x) (put_all x ys one all.1) where
    by_case : (b : Bool) → AllByRecursion P (put_by_name row_name x ys)
        → AllByRecursion P (cond b (y ∷ put_by_name row_name x ys) (x ∷ y ∷ ys))
    by_case true rest = (all.0, rest)
    by_case false rest = (one, all)

  -- what holds of all members holds of them in their order
  pub all_in_order : (xs : List NumberedMetric) → AllByRecursion P xs → AllByRecursion P (by_name row_name xs)
  all_in_order [] all = tt
  all_in_order (x ∷ xs) all = put_all x (by_name row_name xs) all.0 (all_in_order xs all.1)

-- each number is below that of metrics
pub ids_within : (from : ℕ) (metrics : List Metric)
    → AllByRecursion (λ (numbered : NumberedMetric). numbered.0 < from + length metrics) (enumerate_from from metrics)
ids_within from [] = tt
ids_within from (metric ∷ metrics) =
    (omega arith, wider (from + 1) metrics (from + suc (length metrics)) (omega arith)) where
      wider : (from : ℕ) (metrics : List Metric) (top : ℕ) → from + length metrics ≤ top
          → AllByRecursion (λ (numbered : NumberedMetric). numbered.0 < top) (enumerate_from from metrics)
      wider from [] top high = tt
      wider from (metric ∷ metrics) top high = (omega (arith, high), wider (from + 1) metrics top (omega (arith, high)))

pub names_within : (P : List ℕ → Type 0) (from : ℕ) (metrics : List Metric)
    → AllByRecursion (λ (metric : Metric). P metric.name) metrics
    → AllByRecursion (λ (numbered : NumberedMetric). P numbered.1.name) (enumerate_from from metrics)
names_within P from [] all = tt
names_within P from (metric ∷ metrics) all = (all.0, names_within P (from + 1) metrics all.1)

-- rows that are the same for each member, of those that pass two tests that answer the same
pub same_rows : {R : Type 0} (f g : NumberedMetric → R) (p q : NumberedMetric → Bool) (xs : List NumberedMetric)
    → AllByRecursion (λ x. (f x ≡ g x) × (p x ≡ q x)) xs → map f (filter p xs) ≡ map g (filter q xs)
same_rows f g p q [] same = refl
same_rows {R} f g p q (x ∷ xs) same = by_case (p x) (q x) same.0.1 (same_rows f g p q xs same.1) where
  by_case : (a b : Bool) → a ≡ b → map f (filter p xs) ≡ map g (filter q xs)
      → map f (cond a (x ∷ filter p xs) (filter p xs)) ≡ map g (cond b (x ∷ filter q xs) (filter q xs))
  by_case true true is rest = cons_same (f x) (g x) (map f (filter p xs)) (map g (filter q xs)) same.0.0 rest
  by_case false false is rest = rest
  by_case true false is rest = absurd (true_false is)
  by_case false true is rest = absurd (true_false (sym is))

-- rows that are the same for each member that passes
pub passing_rows : {R : Type 0} (f g : NumberedMetric → R) (p : NumberedMetric → Bool) (xs : List NumberedMetric)
    → ((x : NumberedMetric) → p x ≡ true → f x ≡ g x) → map f (filter p xs) ≡ map g (filter p xs)
passing_rows f g p [] same = refl
passing_rows {R} f g p (x ∷ xs) same = by_case (p x) (same x) (passing_rows f g p xs same) where
  by_case : (b : Bool) → (b ≡ true → f x ≡ g x) → map f (filter p xs) ≡ map g (filter p xs)
      → map f (cond b (x ∷ filter p xs) (filter p xs)) ≡ map g (cond b (x ∷ filter p xs) (filter p xs))
  by_case true one rest = cons_same (f x) (g x) (map f (filter p xs)) (map g (filter p xs)) (one refl) rest
  by_case false one rest = rest
