-- Rows of a table that change at some places.
use Rattle.std.proofs.Common.{◌≡◌, ℕ, zero, suc, ◌+◌, ◌-◌, ◌<◌, ◌≤◌, nat_eq, nat_le, not, ◌||◌, Bool, true, false, cond, Option, Some, None, List, [], ◌∷◌, ◌++◌, map, filter, length, slice_get, All, refl, ap, sym, ◌∙◌, subst, arith, inl, inr, add-zero, length-append}
use Rattle.std.proofs.lemmas.List.Elements.{All-cons, All-head, All-tail, All-weaker}
use Rattle.std.proofs.lemmas.List.{length-map, map_push}
use Rattle.std.specs.Option.{option_map, option_map_or, IsSomeAnd}
use Rattle.stat_defs.specs.declared.ids.Kind.{Kind}
use Rattle.stat_defs.specs.declared.ids.Kind.TheVariants.{Histogram}
use Rattle.stat_defs.specs.declared.ids.MetricId.{MetricId}
use Rattle.stat_defs.specs.declared.metrics.Life.{Life}
use Rattle.stat_defs.specs.declared.metrics.Life.TheVariants.{Live, Retired, Gone}
use Rattle.stat_defs.specs.declared.metrics.Metric.{Metric}
use Rattle.book_state.specs.declared.metrics.MetricRow.{MetricRow}
use Rattle.book_state.specs.declared.tables.NameKey.{NameKey}
use Rattle.book_state.specs.State.{is_gone, same_kind, histograms_in, ids_from}
use Rattle.book_state.specs.Step.{change_at}
use Rattle.book_state.specs.Bearing.{has}
use Rattle.book_state.specs.declared.limits.TheConstants.{MAX_METRICS}
use Rattle.book_state.specs.Metrics.{metric_of, change_all, lose, names_from, is_overdue, overdue_at, overdue_among, gone_at, swept_row, IsNamed}
use Rattle.book_state.specs.MetricsKept.{IsIndexed}
use Rattle.book_state.proofs.Releasing.{same_number, other_number, or_parts}
use Rattle.book_state.proofs.Lists.{eq_or, not_some, some_same, true_false, get_map, same_at_all, get_within, some_at, length-change_at, get_change_same, get_change_other, count_cons, count_push}

pub change_push : {X : Type 0} (f : X → X) (ids : List ℕ) (id : ℕ) (rows : List X) → change_all f (ids ++ id ∷ []) rows ≡ change_at f id (change_all f ids rows)
change_push f [] id rows = refl
change_push f (i ∷ ids) id rows = change_push f ids id (change_at f i rows)

-- as the index lists a metric
pub record Lists (m m' : Metric) : Type 0 where
  pub gone : is_gone m'.life ≡ is_gone m.life
  pub kind : m'.kind ≡ m.kind
  pub name : m'.name ≡ m.name

abbrev ListsAt : (MetricRow → MetricRow) → ℕ → List MetricRow → Type 0
ListsAt f i rows = (row : MetricRow) → slice_get rows i ≡ Some row → Lists (metric_of row) (metric_of (f row))

head_names : (id : ℕ) (m m' : Metric) (rest : List (NameKey × ℕ)) → Lists m m'
    → cond (is_gone m'.life) rest ((record { kind = m'.kind; name = m'.name }, id) ∷ rest) ≡ cond (is_gone m.life) rest ((record { kind = m.kind; name = m.name }, id) ∷ rest)
head_names id m m' rest same = rw (same.gone, same.kind, same.name) refl

names_change : (f : MetricRow → MetricRow) (i id : ℕ) (rows : List MetricRow) → ListsAt f i rows → names_from id (map metric_of (change_at f i rows)) ≡ names_from id (map metric_of rows)
names_change f i id [] same = refl
names_change f zero id (row ∷ rows) same = head_names id row.metric (f row).metric (names_from (id + 1) (map metric_of rows)) (same row refl)
names_change f (suc i) id (row ∷ rows) same =
    ap (λ (rest : List (NameKey × ℕ)). cond (is_gone row.metric.life) rest ((record { kind = row.metric.kind; name = row.metric.name }, id) ∷ rest)) (names_change f i (id + 1) rows same)

histograms_change : (f : MetricRow → MetricRow) (i : ℕ) (rows : List MetricRow) → ListsAt f i rows → histograms_in (map metric_of (change_at f i rows)) ≡ histograms_in (map metric_of rows)
histograms_change f i [] same = refl
histograms_change f zero (row ∷ rows) same =
    count_cons (λ (m : Metric). same_kind m.kind Histogram) (f row).metric (map metric_of rows)
    ∙ (ap (λ (k : Kind). cond (same_kind k Histogram) 1 0 + histograms_in (map metric_of rows)) (same row refl).kind
    ∙ sym (count_cons (λ (m : Metric). same_kind m.kind Histogram) row.metric (map metric_of rows)))
histograms_change f (suc i) (row ∷ rows) same =
    count_cons (λ (m : Metric). same_kind m.kind Histogram) row.metric (map metric_of (change_at f i rows))
    ∙ (ap (λ (n : ℕ). cond (same_kind row.metric.kind Histogram) 1 0 + n) (histograms_change f i rows same)
    ∙ sym (count_cons (λ (m : Metric). same_kind m.kind Histogram) row.metric (map metric_of rows)))

module _ (known : List (NameKey × ℕ)) (histograms : ℕ) where
  -- a change that the index does not see
  pub changed_indexed : (f : MetricRow → MetricRow) (i : ℕ) (rows : List MetricRow) → ListsAt f i rows → IsIndexed (map metric_of rows) known histograms → IsIndexed (map metric_of (change_at f i rows)) known histograms
  changed_indexed f i rows same was = record {
    few =
        let n = length-map (change_at f i rows) metric_of in let m = length-map rows metric_of in
        omega (arith, n, m, length-change_at f i rows, was.few);
    known_are = was.known_are ∙ sym (names_change f i 0 rows same);
    histograms_are = was.histograms_are ∙ sym (histograms_change f i rows same);
  }

abbrev pub There : List MetricRow → ℕ → Type 0
There rows id = IsSomeAnd (slice_get rows id) (λ row. is_gone row.metric.life ≡ false)

lose_lists : (tag : ℕ) (row : MetricRow) (last : Bool) → is_gone row.metric.life ≡ false
    → Lists row.metric (metric_of (cond last (record { metric = record row.metric { life = Retired tag }; bearers = 0 }) (record row { bearers = row.bearers - 1 })))
lose_lists tag row true there = record { gone = sym there; kind = refl; name = refl }
lose_lists tag row false there = record { gone = refl; kind = refl; name = refl }

there_at : (rows : List MetricRow) (id : ℕ) (row : MetricRow) → There rows id → slice_get rows id ≡ Some row → is_gone row.metric.life ≡ false
there_at rows id row there at = some_at (λ (r : MetricRow). is_gone r.metric.life ≡ false) (slice_get rows id) row at there

still_there : (tag id k : ℕ) (rows : List MetricRow) → There rows id → There rows k → There (change_at (lose tag) id rows) k
still_there tag id k rows here there = by_row (slice_get rows k) refl there where
  by_row : (o : Option MetricRow) → slice_get rows k ≡ o → IsSomeAnd o (λ row. is_gone row.metric.life ≡ false) → There (change_at (lose tag) id rows) k
  by_row None at h = absurd h
  by_row (Some row) at h = elim (eq_or k id) [
    | inl same ↦
        let got = ap (λ (i : ℕ). slice_get (change_at (lose tag) id rows) i) same
        ∙ (get_change_same (lose tag) id rows ∙ ap (option_map (lose tag)) (ap (λ (i : ℕ). slice_get rows i) (sym same) ∙ at)) in
        subst (λ (o : Option MetricRow). IsSomeAnd o (λ row. is_gone row.metric.life ≡ false)) (sym got) ((lose_lists tag row (nat_le row.bearers 1) h).gone ∙ h)
    | inr other ↦ subst (λ (o : Option MetricRow). IsSomeAnd o (λ row. is_gone row.metric.life ≡ false)) (sym (get_change_other (lose tag) id rows k other ∙ at)) h
  ]

pub lost_indexed : (tag : ℕ) (ids : List ℕ) (rows : List MetricRow) (known : List (NameKey × ℕ)) (histograms : ℕ) → All (There rows) ids
    → IsIndexed (map metric_of rows) known histograms → IsIndexed (map metric_of (change_all (lose tag) ids rows)) known histograms
lost_indexed tag [] rows known histograms there was = was
lost_indexed tag (id ∷ ids) rows known histograms there was =
    let here = All-head (There rows) id ids there in
    lost_indexed tag ids (change_at (lose tag) id rows) known histograms
    (All-weaker (There rows) (There (change_at (lose tag) id rows)) (λ k. still_there tag id k rows here) ids (All-tail (There rows) id ids there))
    (changed_indexed known histograms (lose tag) id rows (λ row at. lose_lists tag row (nat_le row.bearers 1) (there_at rows id row here at)) was)

there_within : (rows : List MetricRow) (id : ℕ) → There rows id → id < length rows
there_within rows id there = by_row (slice_get rows id) refl there where
  by_row : (o : Option MetricRow) → slice_get rows id ≡ o → IsSomeAnd o (λ row. is_gone row.metric.life ≡ false) → id < length rows
  by_row None at h = absurd h
  by_row (Some row) at h = get_within rows id row at

pub all_within : (rows : List MetricRow) (ids : List ℕ) → All (There rows) ids → All (λ id. id < length rows) ids
all_within rows ids there = All-weaker (There rows) (λ id. id < length rows) (there_within rows) ids there

within_step : (n id : ℕ) (m : Metric) (rest : List (NameKey × ℕ)) (t : Bool) → id < n → All (λ k. k < n) (map (λ name. name.1) rest)
    → All (λ k. k < n) (map (λ name. name.1) (cond t rest ((record { kind = m.kind; name = m.name }, id) ∷ rest)))
within_step n id m rest true below all = all
within_step n id m rest false below all = All-cons (λ k. k < n) id (map (λ name. name.1) rest) below all

-- the index's numbers are those of metrics
pub names_within : (n id : ℕ) (metrics : List Metric) → id + length metrics ≤ n → All (λ k. k < n) (map (λ name. name.1) (names_from id metrics))
names_within n id [] room = λ k d below. absurd (omega arith)
names_within n id (m ∷ ms) room =
    within_step n id m (names_from (id + 1) ms) (is_gone m.life) (omega (arith, room)) (names_within n (id + 1) ms (omega (arith, room)))

names_push_step : (id : ℕ) (m : Metric) (last : Metric) (ms : List Metric) (e : NameKey × ℕ) (t : Bool) → is_gone m.life ≡ t
    → names_from (id + 1) (ms ++ last ∷ []) ≡ names_from (id + 1) ms ++ e ∷ [] → names_from id ((m ∷ ms) ++ last ∷ []) ≡ names_from id (m ∷ ms) ++ e ∷ []
names_push_step id m last ms e true gone rest = rw gone rest
names_push_step id m last ms e false gone rest = rw gone (ap (λ (l : List (NameKey × ℕ)). (record { kind = m.kind; name = m.name }, id) ∷ l) rest)

-- one more metric that is not gone
pub names_push : (id : ℕ) (ms : List Metric) (last : Metric) → is_gone last.life ≡ false
    → names_from id (ms ++ last ∷ []) ≡ names_from id ms ++ (record { kind = last.kind; name = last.name }, id + length ms) ∷ []
names_push id [] last there = rw (there, add-zero) refl
names_push id (m ∷ ms) last there =
    let n : id + 1 + length ms ≡ id + length (m ∷ ms) = omega arith in
    names_push_step id m last ms (record { kind = last.kind; name = last.name }, id + length (m ∷ ms)) (is_gone m.life) refl
    (names_push (id + 1) ms last there ∙ ap (λ (k : ℕ). names_from (id + 1) ms ++ (record { kind = last.kind; name = last.name }, k) ∷ []) n)

pub made_indexed : (ms : List Metric) (known known' : List (NameKey × ℕ)) (histograms histograms' id : ℕ) (name : NameKey) (m : Metric) → IsNamed name m → length ms < MAX_METRICS → id ≡ length ms
    → known' ≡ known ++ (name, id) ∷ [] → histograms' ≡ histograms + cond (same_kind m.kind Histogram) 1 0
    → IsIndexed ms known histograms → IsIndexed (ms ++ m ∷ []) known' histograms'
made_indexed ms known known' histograms histograms' id name m named room next listed counted was = record {
  few = let n = length-append ms (m ∷ []) in omega (arith, n, room);
  known_are =
      let there : is_gone m.life ≡ false = ap is_gone named.live in
      let one : (name, id) ≡ (record { kind = m.kind; name = m.name }, 0 + length ms) =
      let at : 0 + length ms ≡ id = omega (arith, next) in λ i. (record { kind = sym named.kind i; name = sym named.full i }, sym at i) in
      listed ∙ (ap (λ (l : List (NameKey × ℕ)). l ++ (name, id) ∷ []) was.known_are ∙ (ap (λ (e : NameKey × ℕ). names_from 0 ms ++ e ∷ []) one ∙ sym (names_push 0 ms m there)));
  histograms_are = counted ∙ (ap (λ (n : ℕ). n + cond (same_kind m.kind Histogram) 1 0) was.histograms_are ∙ sym (count_push (λ (m : Metric). same_kind m.kind Histogram) ms m));
}

-- a change at all these places, where doing it twice is doing it once
module _ {X : Type 0} (f : X → X) (again : (x : X) → f (f x) ≡ f x) where
  change_step : (k id : ℕ) (ids : List ℕ) (rows : List X) (o : Option X)
      → slice_get rows k ≡ o → slice_get (change_all f ids (change_at f id rows)) k ≡ cond (has k ids) (option_map f (slice_get (change_at f id rows) k)) (slice_get (change_at f id rows) k)
      → slice_get (change_all f (id ∷ ids) rows) k ≡ cond (has k (id ∷ ids)) (option_map f o) o
  change_step k id ids rows o at rest = elim (eq_or k id) [
    | inl same ↦
        let here : slice_get (change_at f id rows) k ≡ option_map f o = ap (λ (i : ℕ). slice_get (change_at f id rows) i) same
        ∙ (get_change_same f id rows ∙ ap (option_map f) (ap (λ (i : ℕ). slice_get rows i) (sym same) ∙ at)) in
        rest ∙ (ap (λ (p : Option X). cond (has k ids) (option_map f p) p) here ∙ (twice (has k ids) o
        ∙ ap (λ (b : Bool). cond (b || has k ids) (option_map f o) o) (sym (ap (λ (i : ℕ). nat_eq k i) (sym same) ∙ same_number k))))
    | inr other ↦
        let here : slice_get (change_at f id rows) k ≡ o = get_change_other f id rows k other ∙ at in
        rest ∙ (ap (λ (p : Option X). cond (has k ids) (option_map f p) p) here ∙ ap (λ (b : Bool). cond (b || has k ids) (option_map f o) o) (sym (other_number k id other)))
  ] where
    twice : (t : Bool) (p : Option X) → cond t (option_map f (option_map f p)) (option_map f p) ≡ option_map f p
    twice true None = refl
    twice true (Some x) = ap Some (again x)
    twice false p = refl

  pub get_change_all : (ids : List ℕ) (rows : List X) (k : ℕ) → slice_get (change_all f ids rows) k ≡ cond (has k ids) (option_map f (slice_get rows k)) (slice_get rows k)
  get_change_all [] rows k = refl
  get_change_all (id ∷ ids) rows k = change_step k id ids rows (slice_get rows k) refl (get_change_all ids (change_at f id rows) k)

filter_push : {X : Type 0} (p : X → Bool) (xs : List X) (x : X) (t : Bool) → p x ≡ t → filter p (xs ++ x ∷ []) ≡ cond t (filter p xs ++ x ∷ []) (filter p xs)
filter_push p [] x true e = rw e refl
filter_push p [] x false e = rw e refl
filter_push p (y ∷ xs) x true e = filter_head p y _ _ _ (filter_push p xs x true e) where
  filter_head : {X : Type 0} (p : X → Bool) (y : X) (a b c : List X) → a ≡ b ++ c → cond (p y) (y ∷ a) a ≡ cond (p y) (y ∷ b) b ++ c
  filter_head p y a b c e = by (p y) where
    by : (t : Bool) → cond t (y ∷ a) a ≡ cond t (y ∷ b) b ++ c
    by true = ap (λ l. y ∷ l) e
    by false = e
filter_push p (y ∷ xs) x false e = ap (λ l. cond (p y) (y ∷ l) l) (filter_push p xs x false e)

-- one more metric that is looked at
pub overdue_push : (least : Option ℕ) (rows : List MetricRow) (ids : List ℕ) (id : ℕ) (all all' : List MetricId) (t : Bool) → overdue_at least rows id ≡ t
    → all ≡ overdue_among least rows ids → all' ≡ cond t (all ++ record { 0 = id } ∷ []) all → all' ≡ overdue_among least rows (ids ++ id ∷ [])
overdue_push least rows ids id all all' true over was now =
    now ∙ (ap (λ (l : List MetricId). l ++ record { 0 = id } ∷ []) was
    ∙ sym (ap (map (λ id. record { 0 = id })) (filter_push (overdue_at least rows) ids id true over) ∙ map_push (λ id. record { 0 = id }) (filter (overdue_at least rows) ids) id))
overdue_push least rows ids id all all' false over was now = now ∙ (was ∙ sym (ap (map (λ id. record { 0 = id })) (filter_push (overdue_at least rows) ids id false over)))

-- the overdue ones among the names that are not gone
overdue_step : (least : Option ℕ) (all : List MetricRow) (id : ℕ) (m : Metric) (ms : List Metric) (t b : Bool) → is_gone m.life ≡ t → is_overdue least m.life ≡ b → overdue_at least all id ≡ is_overdue least m.life
    → overdue_among least all (map (λ name. name.1) (names_from (id + 1) ms)) ≡ ids_from (λ m. is_overdue least m.life) (id + 1) ms
    → overdue_among least all (map (λ name. name.1) (names_from id (m ∷ ms))) ≡ ids_from (λ m. is_overdue least m.life) id (m ∷ ms)
overdue_step least all id m ms true true gone over at rest = absurd (gone_is_not least m.life gone over) where
  gone_is_not : (least : Option ℕ) (l : Life) → is_gone l ≡ true → is_overdue least l ≡ true → ⊥
  gone_is_not least Live g o = true_false (sym g)
  gone_is_not least (Retired r) g o = true_false (sym g)
  gone_is_not least Gone g o = true_false (sym o)
overdue_step least all id m ms true false gone over at rest = rw (gone, over) rest
overdue_step least all id m ms false true gone over at rest = rw (gone, at, over) (ap (λ (ids : List MetricId). record { 0 = id } ∷ ids) rest)
overdue_step least all id m ms false false gone over at rest = rw (gone, at, over) rest

plus_zero : (id : ℕ) → id ≡ id + 0
plus_zero id = omega arith

pub overdue_are : (least : Option ℕ) (all : List MetricRow) (id : ℕ) (rows : List MetricRow) → ((k : ℕ) → slice_get all (id + k) ≡ slice_get rows k)
    → overdue_among least all (map (λ name. name.1) (names_from id (map metric_of rows))) ≡ ids_from (λ m. is_overdue least m.life) id (map metric_of rows)
overdue_are least all id [] same = refl
overdue_are least all id (row ∷ rows) same =
    let here : slice_get all id ≡ Some row = ap (λ (i : ℕ). slice_get all i) (plus_zero id) ∙ same 0 in
    overdue_step least all id row.metric (map metric_of rows) (is_gone row.metric.life) (is_overdue least row.metric.life) refl refl
    (ap (λ (o : Option MetricRow). option_map_or (λ row. is_overdue least row.metric.life) o false) here)
    (overdue_are least all (id + 1) rows (λ k. let e : id + 1 + k ≡ id + suc k = omega arith in ap (λ (i : ℕ). slice_get all i) e ∙ same (suc k)))

-- a swept metric
module _ (least : Option ℕ) where
  swept_case : (row : MetricRow) (t : Bool) → is_overdue least row.metric.life ≡ t → swept_row least (cond t (record row { metric = record row.metric { life = Gone } }) row) ≡ cond t (record row { metric = record row.metric { life = Gone } }) row
  swept_case row true over = refl
  swept_case row false over = rw over refl

  swept_twice : (row : MetricRow) → swept_row least (swept_row least row) ≡ swept_row least row
  swept_twice row = swept_case row (is_overdue least row.metric.life) refl

  not_overdue : (l : Life) → is_gone l ≡ true → is_overdue least l ≡ false
  not_overdue Live gone = absurd (true_false (sym gone))
  not_overdue (Retired r) gone = absurd (true_false (sym gone))
  not_overdue Gone gone = refl

  gone_stays : (row : MetricRow) → is_gone row.metric.life ≡ true → swept_row least row ≡ row
  gone_stays row gone = rw (not_overdue row.metric.life gone) refl

  swept_kind : (row : MetricRow) (t : Bool) → metric_of (cond t (record row { metric = record row.metric { life = Gone } }) row) ≡ record row.metric { life = (cond t (record row { metric = record row.metric { life = Gone } }) row).metric.life }
  swept_kind row true = refl
  swept_kind row false = refl

  -- what is not listed is gone
  unlisted_step : (id k : ℕ) (m head : Metric) (rest : List (NameKey × ℕ)) (t : Bool) → has (id + suc k) (map (λ name. name.1) (cond t rest ((record { kind = head.kind; name = head.name }, id) ∷ rest))) ≡ false
      → (has (id + 1 + k) (map (λ name. name.1) rest) ≡ false → is_gone m.life ≡ true) → is_gone m.life ≡ true
  unlisted_step id k m head rest true un next = let e : id + suc k ≡ id + 1 + k = omega arith in next (ap (λ (i : ℕ). has i (map (λ name. name.1) rest)) (sym e) ∙ un)
  unlisted_step id k m head rest false un next = let e : id + suc k ≡ id + 1 + k = omega arith in
      next (ap (λ (i : ℕ). has i (map (λ name. name.1) rest)) (sym e) ∙ or_parts (nat_eq (id + suc k) id) (has (id + suc k) (map (λ name. name.1) rest)) un)

  first_listed : (id : ℕ) (m : Metric) (rest : List (NameKey × ℕ)) (t : Bool) → is_gone m.life ≡ t → has (id + 0) (map (λ name. name.1) (cond t rest ((record { kind = m.kind; name = m.name }, id) ∷ rest))) ≡ false → is_gone m.life ≡ true
  first_listed id m rest true gone un = gone
  first_listed id m rest false gone un = let e : nat_eq (id + 0) id ≡ true = ap (λ (i : ℕ). nat_eq i id) (sym (plus_zero id)) ∙ same_number id in absurd (true_false (rw e at un))

  unlisted : (id k : ℕ) (ms : List Metric) (m : Metric) → slice_get ms k ≡ Some m → has (id + k) (map (λ name. name.1) (names_from id ms)) ≡ false → is_gone m.life ≡ true
  unlisted id k [] m at un = absurd (not_some m at)
  unlisted id zero (head ∷ ms) m at un = subst (λ (x : Metric). is_gone x.life ≡ true) (some_same head m at) (first_listed id head (names_from (id + 1) ms) (is_gone head.life) refl un)
  unlisted id (suc k) (head ∷ ms) m at un = unlisted_step id k m head (names_from (id + 1) ms) (is_gone head.life) un (unlisted (id + 1) k ms m at)

  abbrev listed_ids : List MetricRow → List ℕ
  listed_ids rows = map (λ name. name.1) (names_from 0 (map metric_of rows))

  by_listed : (rows : List MetricRow) (k : ℕ) (t : Bool) → has k (listed_ids rows) ≡ t → (o : Option MetricRow) → slice_get rows k ≡ o → cond t (option_map (swept_row least) o) o ≡ option_map (swept_row least) o
  by_listed rows k true listed o at = refl
  by_listed rows k false listed None at = refl
  by_listed rows k false listed (Some row) at =
      let zero_plus : 0 + k ≡ k = omega arith in
      ap Some (sym (gone_stays row (unlisted 0 k (map metric_of rows) row.metric (get_map metric_of rows k ∙ ap (option_map metric_of) at) (ap (λ (i : ℕ). has i (listed_ids rows)) zero_plus ∙ listed))))

  -- a sweep over the names that are listed is one over all metrics
  pub swept_all : (rows : List MetricRow) → change_all (swept_row least) (map (λ name. name.1) (names_from 0 (map metric_of rows))) rows ≡ map (swept_row least) rows
  swept_all rows = same_at_all (change_all (swept_row least) (listed_ids rows) rows) (map (swept_row least) rows) (λ k.
      get_change_all (swept_row least) swept_twice (listed_ids rows) rows k ∙ (by_listed rows k (has k (listed_ids rows)) refl (slice_get rows k) refl ∙ sym (get_map (swept_row least) rows k)))

  kept_step : (all : List MetricRow) (id : ℕ) (row : MetricRow) (rest rest' : List (NameKey × ℕ)) (t : Bool) → is_gone row.metric.life ≡ t → gone_at all id ≡ is_gone (swept_row least row).metric.life
      → filter (λ name. not (gone_at all name.1)) rest ≡ rest'
      → filter (λ name. not (gone_at all name.1)) (cond t rest ((record { kind = row.metric.kind; name = row.metric.name }, id) ∷ rest))
      ≡ cond (is_gone (swept_row least row).metric.life) rest' ((record { kind = (swept_row least row).metric.kind; name = (swept_row least row).metric.name }, id) ∷ rest')
  kept_step all id row rest rest' true gone at same =
      same ∙ sym (ap (λ (r : MetricRow). cond (is_gone r.metric.life) rest' ((record { kind = r.metric.kind; name = r.metric.name }, id) ∷ rest')) (gone_stays row gone) ∙ ap (λ (b : Bool). cond b rest' ((record { kind = row.metric.kind; name = row.metric.name }, id) ∷ rest')) gone)
  kept_step all id row rest rest' false gone at same =
      let m = swept_kind row (is_overdue least row.metric.life) in
      by_life (is_gone (swept_row least row).metric.life) at ∙ sym (ap (λ (m : Metric). cond (is_gone (swept_row least row).metric.life) rest' ((record { kind = m.kind; name = m.name }, id) ∷ rest')) m) where
        by_life : (b : Bool) → gone_at all id ≡ b → filter (λ name. not (gone_at all name.1)) ((record { kind = row.metric.kind; name = row.metric.name }, id) ∷ rest)
            ≡ cond b rest' ((record { kind = row.metric.kind; name = row.metric.name }, id) ∷ rest')
        by_life true g = rw g same
        by_life false g = rw g (ap (λ (l : List (NameKey × ℕ)). (record { kind = row.metric.kind; name = row.metric.name }, id) ∷ l) same)

  -- the names that are left in the index
  pub names_left : (all : List MetricRow) (id : ℕ) (rows : List MetricRow) → ((k : ℕ) → slice_get all (id + k) ≡ slice_get (map (swept_row least) rows) k)
      → filter (λ name. not (gone_at all name.1)) (names_from id (map metric_of rows)) ≡ names_from id (map metric_of (map (swept_row least) rows))
  names_left all id [] same = refl
  names_left all id (row ∷ rows) same =
      kept_step all id row (names_from (id + 1) (map metric_of rows)) (names_from (id + 1) (map metric_of (map (swept_row least) rows))) (is_gone row.metric.life) refl
      (ap (λ (o : Option MetricRow). option_map_or (λ row. is_gone row.metric.life) o false) (ap (λ (i : ℕ). slice_get all i) (plus_zero id) ∙ same 0))
      (names_left all (id + 1) rows (λ k. let e : id + 1 + k ≡ id + suc k = omega arith in ap (λ (i : ℕ). slice_get all i) e ∙ same (suc k)))

  histograms_left : (rows : List MetricRow) → histograms_in (map metric_of (map (swept_row least) rows)) ≡ histograms_in (map metric_of rows)
  histograms_left [] = refl
  histograms_left (row ∷ rows) =
      count_cons (λ (m : Metric). same_kind m.kind Histogram) (swept_row least row).metric (map metric_of (map (swept_row least) rows))
      ∙ (ap (λ (m : Metric). cond (same_kind m.kind Histogram) 1 0 + histograms_in (map metric_of (map (swept_row least) rows))) (swept_kind row (is_overdue least row.metric.life))
      ∙ (ap (λ (n : ℕ). cond (same_kind row.metric.kind Histogram) 1 0 + n) (histograms_left rows)
      ∙ sym (count_cons (λ (m : Metric). same_kind m.kind Histogram) row.metric (map metric_of rows))))

  pub swept_indexed : (rows : List MetricRow) (known known' : List (NameKey × ℕ)) (histograms : ℕ) → known' ≡ filter (λ name. not (gone_at (map (swept_row least) rows) name.1)) known
      → IsIndexed (map metric_of rows) known histograms → IsIndexed (map metric_of (map (swept_row least) rows)) known' histograms
  swept_indexed rows known known' histograms left was = record {
    few =
        let n = length-map (map (swept_row least) rows) metric_of in let m = length-map rows metric_of in let k = length-map rows (swept_row least) in
        omega (arith, n, m, k, was.few);
    known_are = left ∙ (ap (filter (λ name. not (gone_at (map (swept_row least) rows) name.1))) was.known_are
        ∙ names_left (map (swept_row least) rows) 0 rows (λ k. let e : 0 + k ≡ k = omega arith in ap (λ (i : ℕ). slice_get (map (swept_row least) rows) i) e));
    histograms_are = was.histograms_are ∙ sym (histograms_left rows);
  }
