-- Units by name.
use Rattle.std.proofs.Common.{◌≡◌, ℕ, cond, Bool, List, [], ◌∷◌, refl, ap, arith}
use Rattle.std.specs.Prelude.{sum_by}
use Rattle.std.specs.List.{AllByRecursion, flat_map}
use Rattle.std.proofs.lemmas.List.Sums.{sum_by-cons, sum_by-append}
use Rattle.stat_defs.specs.declared.events.Event.{Event}
use Rattle.stat_defs.specs.declared.events.Event.TheVariants as event
use Rattle.stat_defs.specs.declared.history.Verdict.{Verdict}
use Rattle.stat_defs.specs.declared.history.Verdict.TheVariants as verdict
use Rattle.ledger.specs.Ledger.{RunPlan}
use Rattle.ledger.specs.Work.{Work, events_in, units_in, units_by, units_of}
use Rattle.all_accepted.specs.Admitted.{NamedKind, names_it, is_given}

-- the units that an event adds to what has this name
abbrev pub unit_named : RunPlan → NamedKind → Event → ℕ
unit_named plan n (event.Inc label name k) = cond (names_it plan n (event.Inc label name k)) k 0
unit_named plan n other = 0

abbrev pub units_named : RunPlan → NamedKind → List Event → ℕ
units_named plan n es = sum_by (unit_named plan n) es

-- the events that were given a number are those that name its metric
abbrev pub Hits : RunPlan → ℕ → NamedKind → Work → Type 0
Hits plan id n work = AllByRecursion (λ told. is_given id told.1 ≡ names_it plan n told.0) work

module _ (plan : RunPlan) (id : ℕ) (n : NamedKind) where
  unit_is : (e : Event) (v : Verdict) → is_given id v ≡ names_it plan n e → units_in id (e, v) ≡ unit_named plan n e
  unit_is (event.Inc label name k) (verdict.Accepted given) hit = ap (λ (b : Bool). cond b k 0) hit
  unit_is (event.Inc label name k) (verdict.Opened given) hit = ap (λ (b : Bool). cond b k 0) hit
  unit_is (event.Inc label name k) (verdict.Released given) hit = ap (λ (b : Bool). cond b k 0) hit
  unit_is (event.Inc label name k) verdict.LabelTaken hit = ap (λ (b : Bool). cond b k 0) hit
  unit_is (event.Inc label name k) verdict.NoScope hit = ap (λ (b : Bool). cond b k 0) hit
  unit_is (event.Inc label name k) verdict.Rejected hit = ap (λ (b : Bool). cond b k 0) hit
  unit_is (event.Inc label name k) verdict.OverLimit hit = ap (λ (b : Bool). cond b k 0) hit
  unit_is (event.Inc label name k) verdict.NoRoom hit = ap (λ (b : Bool). cond b k 0) hit
  unit_is (event.Gauge label name mode how k) v hit = refl
  unit_is (event.Rec label name k) v hit = refl
  unit_is (event.SetText label name text) v hit = refl
  unit_is (event.OpenScope label prefix) v hit = refl
  unit_is (event.Release label) v hit = refl

  work_units : (work : Work) → Hits plan id n work → units_by id work ≡ units_named plan n (events_in work)
  work_units [] hits = refl
  work_units (told ∷ work) hits =
      let one = unit_is told.0 told.1 hits.0 in
      let rest = work_units work hits.1 in
      let left = sum_by-cons (units_in id) told work in
      let right = sum_by-cons (unit_named plan n) told.0 (events_in work) in
      omega (arith, one, rest, left, right)

  pub works_units : (works : List Work) → AllByRecursion (Hits plan id n) works → units_of id works ≡ units_named plan n (flat_map events_in works)
  works_units [] hits = refl
  works_units (work ∷ works) hits =
      let one = work_units work hits.0 in
      let rest = works_units works hits.1 in
      let left = sum_by-cons (units_by id) work works in
      let right = sum_by-append (unit_named plan n) (events_in work) (flat_map events_in works) in
      omega (arith, one, rest, left, right)
