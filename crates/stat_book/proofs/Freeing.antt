-- The symbol uses of some metrics' names, taken away one name after the other.
use Rattle.std.proofs.Common.{◌≡◌, ℕ, zero, suc, ◌+◌, ◌<◌, ◌≤◌, Option, Some, None, List, [], ◌∷◌, ◌++◌, take, get_or, length, slice_get, append-nil, refl, ap, sym, ◌∙◌, arith}
use Rattle.std.specs.Option.{IsSomeAnd, option_map_or}
use Rattle.std.proofs.lemmas.List.{take_more}
use Rattle.std.proofs.lemmas.List.Concat.{flat_map-append}
use Rattle.stat_defs.specs.declared.ids.MetricId.{MetricId}
use Rattle.stat_defs.specs.declared.metrics.Metric.{Metric}
use Rattle.symbol_table.specs.Table.{Table, times, uncounted, uncounted_all}
use Rattle.book_state.specs.State.{Row}
use Rattle.stat_book.specs.Sweeps.{numbers_at, numbers_of_all}
use Rattle.stat_book.proofs.Uses.{times_append}

pub uncounted_append : (m : Table) (xs ys : List ℕ) → uncounted_all m (xs ++ ys) ≡ uncounted_all (uncounted_all m xs) ys
uncounted_append m [] ys = refl
uncounted_append m (x ∷ xs) ys = uncounted_append (uncounted m x) xs ys

module _ (rows : List Row) where
  pub metric_numbers : (id : MetricId) (m : Metric) → IsSomeAnd (slice_get rows id.0) (λ row. row.metric ≡ m) → m.numbers ≡ numbers_at rows id
  metric_numbers id m is = by_row (slice_get rows id.0) is where
    by_row : (o : Option Row) → IsSomeAnd o (λ row. row.metric ≡ m) → m.numbers ≡ option_map_or (λ row. row.metric.numbers) o []
    by_row None is = absurd is
    by_row (Some row) is = ap (λ (m : Metric). m.numbers) (sym is)

  pub taken_next : (ids : List MetricId) (i : ℕ) (d : MetricId) → i < length ids → numbers_of_all rows (take (i + 1) ids) ≡ numbers_of_all rows (take i ids) ++ numbers_at rows (get_or ids i d)
  taken_next ids i d within =
      ap (numbers_of_all rows) (take_more ids i d within)
      ∙ (flat_map-append (numbers_at rows) (take i ids) (get_or ids i d ∷ []) ∙ ap (λ (l : List ℕ). numbers_of_all rows (take i ids) ++ l) (append-nil (numbers_at rows (get_or ids i d))))

  pub taken_few : (ids : List MetricId) (i n : ℕ) → times n (numbers_of_all rows (take i ids)) ≤ times n (numbers_of_all rows ids)
  taken_few ids zero n = omega arith
  taken_few [] (suc i) n = omega arith
  taken_few (id ∷ ids) (suc i) n =
      let rest = taken_few ids i n in
      let some = times_append n (numbers_at rows id) (numbers_of_all rows (take i ids)) in
      let all = times_append n (numbers_at rows id) (numbers_of_all rows ids) in
      omega (arith, rest, some, all)
