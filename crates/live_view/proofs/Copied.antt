-- The metrics of a book, one after another.
use Rattle.std.proofs.Common.{◌≡◌, ℕ, zero, suc, ◌+◌, List, [], ◌∷◌, ◌++◌, map, take, ap, sym, ◌∙◌, arith}
use Rattle.std.specs.Prelude.{slice_get}
use Rattle.std.specs.Option.{IsSomeAnd}
use Rattle.stat_defs.specs.declared.metrics.Metric.{Metric}
use Rattle.book_state.specs.State.{Row}

-- one row more
next_metric : (rows : List Row) (id : ℕ) (metric : Metric)
    → IsSomeAnd (slice_get rows id) (λ row. row.metric ≡ metric)
    → map (λ (row : Row). row.metric) (take (suc id) rows)
    ≡ map (λ (row : Row). row.metric) (take id rows) ++ metric ∷ []
next_metric [] id metric at = absurd at
next_metric (row ∷ rows) zero metric at = ap (λ (m : Metric). m ∷ []) at
next_metric (row ∷ rows) (suc id) metric at =
    ap (λ (l : List Metric). row.metric ∷ l) (next_metric rows id metric at)

-- its copy behind those of the others
pub one_copy : (rows : List Row) (id : ℕ) (metric copy : Metric) (copies more : List Metric)
    → more ≡ copies ++ copy ∷ [] → copies ≡ map (λ (row : Row). row.metric) (take id rows)
    → copy ≡ metric → IsSomeAnd (slice_get rows id) (λ row. row.metric ≡ metric)
    → more ≡ map (λ (row : Row). row.metric) (take (id + 1) rows)
one_copy rows id metric copy copies more pushed were is at =
    let next : suc id ≡ id + 1 = omega arith in
    pushed
    ∙ (λ i. were i ++ is i ∷ [])
    ∙ sym (next_metric rows id metric at)
    ∙ ap (λ (n : ℕ). map (λ (row : Row). row.metric) (take n rows)) next
