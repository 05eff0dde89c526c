-- The names that a sweep makes gone, and the table of a book's symbols.
use Rattle.std.proofs.Common.{◌≡◌, ℕ, suc, ◌+◌, ◌<◌, ◌≤◌, Bool, true, false, cond, Option, Some, List, [], ◌∷◌, ◌++◌, map, length, All, slice_get, refl, ap, sym, ◌∙◌, subst, arith}
use Rattle.std.specs.List.{flat_map, count_by}
use Rattle.std.specs.Option.{option_map_or}
use Rattle.std.proofs.lemmas.List.{length-map, map-append}
use Rattle.std.proofs.lemmas.List.Elements.{All-nil, All-cons}
use Rattle.stat_defs.specs.Books.{BookHistory}
use Rattle.stat_defs.specs.declared.ids.MetricId.{MetricId}
use Rattle.stat_defs.specs.declared.metrics.Life.{Life}
use Rattle.stat_defs.specs.declared.metrics.Life.TheVariants.{Live, Retired, Gone}
use Rattle.stat_defs.specs.declared.metrics.Metric.{Metric}
use Rattle.stat_defs.specs.declared.history.Call.TheVariants as call
use Rattle.stat_defs.specs.declared.history.Reply.TheVariants as reply
use Rattle.stat_defs.specs.declared.history.Entry.{Entry}
use Rattle.stat_defs.specs.Names.{tokens}
use Rattle.symbol_table.specs.Table.{Table, uses_at, times, total, uncounted_all, IsTable}
use Rattle.book_state.specs.State.{Row, Seat, State, is_gone, ids_from, symbols_of, symbols_in, metrics_of}
use Rattle.book_state.specs.Step.{Allowed, overdue, swept, overdue_in}
use Rattle.book_state.specs.RunState.{IsRunState}
use Rattle.book_state.specs.Stored.{StateView, after_entry}
use Rattle.book_state.proofs.Lists.{not_some, map_some, get_map, count_cons, true_false}
use Rattle.book_state.proofs.Members.{Among, among_flat, flat_among}
use Rattle.stat_book.specs.Calls.{rules_of, state_of}
use Rattle.stat_book.specs.Symbols.{AreUses}
use Rattle.stat_book.specs.BookKept.{IsKept}
use Rattle.stat_book.specs.Sweeps.{numbers_at, numbers_of_all}
use Rattle.stat_book.proofs.Keeping.{with_entry, state_with, run_of, entry_kept}
use Rattle.stat_book.proofs.Uses.{times_append, numbers_of, zip_numbers, row_symbols, may_drop, dropped_uses}

abbrev as_metric : Row → Metric
as_metric row = row.metric

count_step : (p : Metric → Bool) (id : ℕ) (row : Row) (rows : List Row) (t : Bool) → p row.metric ≡ t → length (ids_from p (id + 1) (map as_metric rows)) ≡ count_by (λ row. p row.metric) rows
    → length (ids_from p id (map as_metric (row ∷ rows))) ≡ cond t 1 0 + count_by (λ row. p row.metric) rows
count_step p id row rows true is rest =
    let e : length (ids_from p id (map as_metric (row ∷ rows))) ≡ suc (length (ids_from p (id + 1) (map as_metric rows))) = rw is refl in
    omega (arith, e, rest)
count_step p id row rows false is rest =
    let e : length (ids_from p id (map as_metric (row ∷ rows))) ≡ length (ids_from p (id + 1) (map as_metric rows)) = rw is refl in
    omega (arith, e, rest)

ids_count : (p : Metric → Bool) (id : ℕ) (rows : List Row) → length (ids_from p id (map as_metric rows)) ≡ count_by (λ row. p row.metric) rows
ids_count p id [] = refl
ids_count p id (row ∷ rows) =
    count_step p id row rows (p row.metric) refl (ids_count p (id + 1) rows) ∙ sym (count_cons (λ (row : Row). p row.metric) row rows)

-- as many become gone as are overdue
pub gone_count : (s : State) → length (overdue_in s) ≡ count_by (λ row. overdue s.seats row.metric.life) s.metrics
gone_count s = ids_count (λ (metric : Metric). overdue s.seats metric.life) 0 s.metrics

within_step : (n id : ℕ) (ids : List MetricId) (t : Bool) → id < n → All (λ (k : MetricId). k.0 < n) ids → All (λ (k : MetricId). k.0 < n) (cond t (record { 0 = id } ∷ ids) ids)
within_step n id ids true below all = All-cons (λ (k : MetricId). k.0 < n) (record { 0 = id }) ids below all
within_step n id ids false below all = all

ids_within : (p : Metric → Bool) (n id : ℕ) (metrics : List Metric) → id + length metrics ≤ n → All (λ (k : MetricId). k.0 < n) (ids_from p id metrics)
ids_within p n id [] room = All-nil (λ (k : MetricId). k.0 < n)
ids_within p n id (m ∷ ms) room = within_step n id (ids_from p (id + 1) ms) (p m) (omega (arith, room)) (ids_within p n (id + 1) ms (omega (arith, room)))

pub gone_within : (s : State) → All (λ (id : MetricId). id.0 < length s.metrics) (overdue_in s)
gone_within s =
    let n = length-map s.metrics as_metric in
    ids_within (λ (metric : Metric). overdue s.seats metric.life) (length s.metrics) 0 (metrics_of s) (omega (arith, n))

abbrev times_in : ℕ → List (List ℕ × ℕ) → ℕ
times_in n symbols = times n (numbers_of symbols)

times_both : (n : ℕ) (a b : List (List ℕ × ℕ)) → times_in n (a ++ b) ≡ times_in n a + times_in n b
times_both n a b = ap (times n) (map-append (λ (symbol : List ℕ × ℕ). symbol.1) a b) ∙ times_append n (numbers_of a) (numbers_of b)

-- a metric that is overdue is not gone yet
overdue_there : (seats : List Seat) (life : Life) → overdue seats life ≡ true → is_gone life ≡ false
overdue_there seats (Retired tag) e = refl
overdue_there seats Live e = refl
overdue_there seats Gone e = absurd (true_false (sym e))

abbrev is_overdue : List Seat → Metric → Bool
is_overdue seats metric = overdue seats metric.life

module _ (seats : List Seat) (all : List Row) (n : ℕ) where
  split_step : (id : ℕ) (row : Row) (rows : List Row) (t : Bool) → overdue seats row.metric.life ≡ t → slice_get all id ≡ Some row → length row.metric.numbers ≡ length (tokens row.metric.name)
      → times_in n (flat_map symbols_of rows) ≡ times_in n (flat_map symbols_of (map (swept seats) rows)) + times n (numbers_of_all all (ids_from (is_overdue seats) (id + 1) (map as_metric rows)))
      → times_in n (flat_map symbols_of (row ∷ rows))
      ≡ times_in n (symbols_of (swept seats row) ++ flat_map symbols_of (map (swept seats) rows)) + times n (numbers_of_all all (ids_from (is_overdue seats) id (map as_metric (row ∷ rows))))
  split_step id row rows true is here many rest =
      let was = ap numbers_of (row_symbols row (overdue_there seats row.metric.life is)) ∙ zip_numbers (tokens row.metric.name) row.metric.numbers many in
      let head = times_both n (symbols_of row) (flat_map symbols_of rows) in
      let own : times_in n (symbols_of row) ≡ times n row.metric.numbers = ap (times n) was in
      let gone : symbols_of (swept seats row) ≡ [] = rw is refl in
      let less = ap (λ l. times_in n (l ++ flat_map symbols_of (map (swept seats) rows))) gone in
      let ids = ids_from (is_overdue seats) (id + 1) (map as_metric rows) in
      let got : numbers_at all (record { 0 = id }) ≡ row.metric.numbers = ap (λ (o : Option Row). option_map_or (λ row. row.metric.numbers) o []) here in
      let freed : times n (numbers_of_all all (ids_from (is_overdue seats) id (map as_metric (row ∷ rows)))) ≡ times n row.metric.numbers + times n (numbers_of_all all ids) =
      rw is (ap (λ l. times n (l ++ numbers_of_all all ids)) got ∙ times_append n row.metric.numbers (numbers_of_all all ids)) in
      omega (arith, head, own, less, freed, rest)
  split_step id row rows false is here many rest =
      let head = times_both n (symbols_of row) (flat_map symbols_of rows) in
      let same : symbols_of (swept seats row) ≡ symbols_of row = rw is refl in
      let less = ap (λ l. times_in n (l ++ flat_map symbols_of (map (swept seats) rows))) same in
      let kept = times_both n (symbols_of row) (flat_map symbols_of (map (swept seats) rows)) in
      let freed : times n (numbers_of_all all (ids_from (is_overdue seats) id (map as_metric (row ∷ rows)))) ≡ times n (numbers_of_all all (ids_from (is_overdue seats) (id + 1) (map as_metric rows))) =
      rw is refl in
      omega (arith, head, less, kept, freed, rest)

  split_from : (id : ℕ) (rows : List Row) → ((k : ℕ) (row : Row) → slice_get rows k ≡ Some row → slice_get all (id + k) ≡ Some row)
      → ((k : ℕ) (row : Row) → slice_get rows k ≡ Some row → length row.metric.numbers ≡ length (tokens row.metric.name))
      → times_in n (flat_map symbols_of rows)
      ≡ times_in n (flat_map symbols_of (map (swept seats) rows)) + times n (numbers_of_all all (ids_from (is_overdue seats) id (map as_metric rows)))
  split_from id [] at many = refl
  split_from id (row ∷ rows) at many =
      let first : id + 0 ≡ id = omega arith in
      split_step id row rows (overdue seats row.metric.life) refl (subst (λ (i : ℕ). slice_get all i ≡ Some row) first (at 0 row refl)) (many 0 row refl)
      (split_from (id + 1) rows (λ k r here. let e : id + suc k ≡ id + 1 + k = omega arith in subst (λ (i : ℕ). slice_get all i ≡ Some r) e (at (suc k) r here)) (λ k r here. many (suc k) r here))

-- the symbols of the names that stay, and of those that become gone
pub swept_split : (s : State) → IsRunState s → (n : ℕ) → times n (numbers_of (symbols_in s)) ≡ times n (numbers_of (flat_map symbols_of (map (swept s.seats) s.metrics))) + times n (numbers_of_all s.metrics (overdue_in s))
swept_split s run n =
    split_from s.seats s.metrics n 0 s.metrics (λ k row here. let e : k ≡ 0 + k = omega arith in subst (λ (i : ℕ). slice_get s.metrics i ≡ Some row) e here) (λ k row here. (run.rows k row here).numbers)

swept_row_less : (seats : List Seat) (row : Row) (t : Bool) → overdue seats row.metric.life ≡ t → (y : List ℕ × ℕ) → Among (symbols_of (swept seats row)) y → Among (symbols_of row) y
swept_row_less seats row true is y a = absurd (not_some y (subst (λ l. slice_get l a.0 ≡ Some y) gone a.1)) where
  gone : symbols_of (swept seats row) ≡ []
  gone = rw is refl
swept_row_less seats row false is y a = subst (λ l. Among l y) same a where
  same : symbols_of (swept seats row) ≡ symbols_of row
  same = rw is refl

pub swept_less : (seats : List Seat) (rows : List Row) (t : List ℕ) (n : ℕ) → Among (flat_map symbols_of (map (swept seats) rows)) (t, n) → Among (flat_map symbols_of rows) (t, n)
swept_less seats rows t n a =
    let got = flat_among symbols_of (map (swept seats) rows) (t, n) a in
    let row = map_some (swept seats) (slice_get rows got.0) got.1 (sym (get_map (swept seats) rows got.0) ∙ got.2) in
    among_flat symbols_of rows got.0 row.0 (t, n) row.1
    (swept_row_less seats row.0 (overdue seats row.0.metric.life) refl (t, n) (subst (λ (r : Row). Among (symbols_of r) (t, n)) row.2 got.3))

module _ (book : BookHistory) (held : StateView) (uses : Table) (kept : IsKept book held uses) where
  -- each number has as many uses as it stands in the names that become gone
  pub may_free : (n : ℕ) → times n (numbers_of_all (state_of book).metrics (overdue_in (state_of book))) ≤ uses_at uses n
  may_free n =
      let s = state_of book in
      may_drop uses (symbols_in s) kept.symbols (numbers_of_all s.metrics (overdue_in s)) (flat_map symbols_of (map (swept s.seats) s.metrics))
      (swept_split s (run_of book kept.legal)) (λ t n. swept_less s.seats s.metrics t n) n

  module _ (gone : ℕ) (count : gone ≡ length (overdue_in (state_of book))) where
    abbrev entry : Entry
    entry = record { seat = 0; call = call.Sweep; reply = reply.Swept gone }

    pub sweep_allowed : Allowed (rules_of book) 0 call.Sweep (reply.Swept gone) (state_of book)
    sweep_allowed = (refl, count ∙ gone_count (state_of book))

    pub swept_kept : (held' : StateView) (uses' : Table) (log : List Entry) → log ≡ book.log ++ entry ∷ [] → held' ≡ after_entry held entry
        → uses' ≡ uncounted_all uses (numbers_of_all (state_of book).metrics (overdue_in (state_of book)))
        → ((n : ℕ) → uses_at uses' n + times n (numbers_of_all (state_of book).metrics (overdue_in (state_of book))) ≡ uses_at uses n) → total uses' ≤ total uses → IsTable uses'
        → IsKept (record book { log = log }) held' uses'
    swept_kept held' uses' log grown is freed counts less is_table =
        let s = state_of book in
        let rest = flat_map symbols_of (map (swept s.seats) s.metrics) in
        let symbols : symbols_in (state_of (with_entry book entry)) ≡ rest = ap symbols_in (state_with book entry) in
        let same = ap (λ (s : State). length s.metrics) (state_with book entry) ∙ length-map s.metrics (swept s.seats) in
        entry_kept book held uses kept entry sweep_allowed tt held' uses' log grown is refl (λ no. absurd cc)
        (subst (λ symbols. AreUses uses' symbols) (sym symbols)
        (dropped_uses uses (symbols_in s) kept.symbols (numbers_of_all s.metrics (overdue_in s)) rest (swept_split s (run_of book kept.legal)) (λ t n. swept_less s.seats s.metrics t n) uses' freed counts is_table))
        (omega (arith, kept.few_uses, same, less))
