-- The index of the names that are not gone.
use Rattle.std.proofs.Common.{◌≡◌, ℕ, ◌+◌, ◌&&◌, not, Bool, true, false, cond, Option, Some, List, [], ◌∷◌, map, refl, ap}
use Rattle.std.specs.Map.{lookup}
use Rattle.std.specs.List.{position_from}
use Rattle.stat_defs.specs.declared.ids.Kind.{Kind}
use Rattle.stat_defs.specs.declared.ids.Kind.TheVariants.{Counter, Gauge, Histogram, Text}
use Rattle.stat_defs.specs.declared.ids.MetricId.{MetricId}
use Rattle.stat_defs.specs.declared.metrics.Metric.{Metric}
use Rattle.book_state.specs.contracts.tables.NameKeyPartialEq.TheImpl as key_eq
use Rattle.book_state.specs.State.{is_gone, same_kind, same_text, ids_from}
use Rattle.book_state.specs.Metrics.{names_from}

abbrev pub as_id : ℕ → MetricId
as_id id = record { 0 = id }

ids_step : (id : ℕ) (m : Metric) (ms : List Metric) (t : Bool) → is_gone m.life ≡ t
    → map as_id (map (λ name. name.1) (names_from (id + 1) ms)) ≡ ids_from (λ m. not (is_gone m.life)) (id + 1) ms
    → map as_id (map (λ name. name.1) (names_from id (m ∷ ms))) ≡ ids_from (λ m. not (is_gone m.life)) id (m ∷ ms)
ids_step id m ms true e rest = rw e rest
ids_step id m ms false e rest = rw e (ap (λ (ids : List MetricId). record { 0 = id } ∷ ids) rest)

-- the index has the numbers of the names that are not gone
pub ids_are : (id : ℕ) (metrics : List Metric) → map as_id (map (λ name. name.1) (names_from id metrics)) ≡ ids_from (λ m. not (is_gone m.life)) id metrics
ids_are id [] = refl
ids_are id (m ∷ ms) = ids_step id m ms (is_gone m.life) refl (ids_are (id + 1) ms)

same_name : (k j : Kind) (n m : List ℕ) → key_eq.eq-value.it (record { kind = k; name = n }) (record { kind = j; name = m }) ≡ (same_kind k j && same_text n m)
same_name Counter Counter n m = refl
same_name Counter Gauge n m = refl
same_name Counter Histogram n m = refl
same_name Counter Text n m = refl
same_name Gauge Counter n m = refl
same_name Gauge Gauge n m = refl
same_name Gauge Histogram n m = refl
same_name Gauge Text n m = refl
same_name Histogram Counter n m = refl
same_name Histogram Gauge n m = refl
same_name Histogram Histogram n m = refl
same_name Histogram Text n m = refl
same_name Text Counter n m = refl
same_name Text Gauge n m = refl
same_name Text Histogram n m = refl
same_name Text Text n m = refl

abbrev is_known : Kind → List ℕ → Metric → Bool
is_known kind name m = not (is_gone m.life) && (same_kind kind m.kind && same_text name m.name)

found_step : (kind : Kind) (name : List ℕ) (id : ℕ) (m : Metric) (ms : List Metric) (t : Bool) → is_gone m.life ≡ t
    → lookup (key_eq.eq-value.it (record { kind = kind; name = name })) (names_from (id + 1) ms) ≡ position_from (is_known kind name) (id + 1) ms
    → lookup (key_eq.eq-value.it (record { kind = kind; name = name })) (names_from id (m ∷ ms)) ≡ position_from (is_known kind name) id (m ∷ ms)
found_step kind name id m ms true e rest = rw e rest
found_step kind name id m ms false e rest = rw (e, same_name kind m.kind name m.name) (ap (λ (o : Option ℕ). cond (same_kind kind m.kind && same_text name m.name) (Some id) o) rest)

-- the index finds the metric of a kind and full name
pub found_is : (kind : Kind) (name : List ℕ) (id : ℕ) (metrics : List Metric)
    → lookup (key_eq.eq-value.it (record { kind = kind; name = name })) (names_from id metrics) ≡ position_from (is_known kind name) id metrics
found_is kind name id [] = refl
found_is kind name id (m ∷ ms) = found_step kind name id m ms (is_gone m.life) refl (found_is kind name (id + 1) ms)
