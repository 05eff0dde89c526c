-- Values of histograms by name.
use Rattle.std.proofs.Common.{◌≡◌, ◌==◌, ℕ, cond, Bool, true, false, Option, None, Some, List, [], ◌∷◌, map, refl, ap, sym, ◌∙◌}
use Rattle.std.specs.Prelude.{filter, filter_map}
use Rattle.std.specs.List.{AllByRecursion, flat_map, cons_option}
use Rattle.std.proofs.lemmas.List.Elements.{filter_map-append}
use Rattle.stat_defs.specs.declared.events.Event.{Event}
use Rattle.stat_defs.specs.declared.events.Event.TheVariants as event
use Rattle.stat_defs.specs.declared.history.Verdict.{Verdict}
use Rattle.stat_defs.specs.declared.history.Verdict.TheVariants as verdict
use Rattle.merge_round.specs.Halves.{values_on}
use Rattle.ledger.specs.Ledger.{RunPlan}
use Rattle.ledger.specs.Work.{Work, Recording, events_in, recording_in, recordings}
use Rattle.ledger.proofs.Lists.{both_appended}
use Rattle.all_accepted.specs.Admitted.{NamedKind, names_it, is_given}
use Rattle.same_output.proofs.Units.{Hits}

-- the value that an event records in the histogram of this name
abbrev pub value_named : RunPlan → NamedKind → Event → Option ℕ
value_named plan n (event.Rec label name v) = cond (names_it plan n (event.Rec label name v)) (Some v) None
value_named plan n other = None

abbrev pub values_named : RunPlan → NamedKind → List Event → List ℕ
values_named plan n es = filter_map (value_named plan n) es

module _ (plan : RunPlan) (id : ℕ) (n : NamedKind) where
  -- the values on the histogram with one recording more
  abbrev on_more : Option Recording → List Recording → List ℕ
  on_more o rest = values_on id (cons_option o rest)

  recorded : (given k : ℕ) (t : Bool) (rest : List Recording) → (given == id) ≡ t → values_on id ((given, k) ∷ rest) ≡ cons_option (cond t (Some k) None) (values_on id rest)
  recorded given k t rest is = ap (λ (b : Bool). map (λ (p : ℕ × ℕ). p.1) (cond b ((given, k) ∷ filter (λ (p : ℕ × ℕ). p.0 == id) rest) (filter (λ (p : ℕ × ℕ). p.0 == id) rest))) is ∙ by_case t where
    by_case : (b : Bool) → map (λ (p : ℕ × ℕ). p.1) (cond b ((given, k) ∷ filter (λ (p : ℕ × ℕ). p.0 == id) rest) (filter (λ (p : ℕ × ℕ). p.0 == id) rest)) ≡ cons_option (cond b (Some k) None) (values_on id rest)
    by_case true = refl
    by_case false = refl

  abbrev none_or : Bool → ℕ → List ℕ → List ℕ
  none_or b k rest = cons_option (cond b (Some k) None) rest

  value_is : (e : Event) (v : Verdict) (rest : List Recording) → is_given id v ≡ names_it plan n e → on_more (recording_in (e, v)) rest ≡ cons_option (value_named plan n e) (values_on id rest)
  value_is (event.Rec label name k) (verdict.Accepted given) rest hit = recorded given.0 k (names_it plan n (event.Rec label name k)) rest hit
  value_is (event.Rec label name k) (verdict.Opened given) rest hit = ap (λ (b : Bool). none_or b k (values_on id rest)) hit
  value_is (event.Rec label name k) (verdict.Released given) rest hit = ap (λ (b : Bool). none_or b k (values_on id rest)) hit
  value_is (event.Rec label name k) verdict.LabelTaken rest hit = ap (λ (b : Bool). none_or b k (values_on id rest)) hit
  value_is (event.Rec label name k) verdict.NoScope rest hit = ap (λ (b : Bool). none_or b k (values_on id rest)) hit
  value_is (event.Rec label name k) verdict.Rejected rest hit = ap (λ (b : Bool). none_or b k (values_on id rest)) hit
  value_is (event.Rec label name k) verdict.OverLimit rest hit = ap (λ (b : Bool). none_or b k (values_on id rest)) hit
  value_is (event.Rec label name k) verdict.NoRoom rest hit = ap (λ (b : Bool). none_or b k (values_on id rest)) hit
  value_is (event.Inc label name k) v rest hit = refl
  value_is (event.Gauge label name mode how k) v rest hit = refl
  value_is (event.SetText label name text) v rest hit = refl
  value_is (event.OpenScope label prefix) v rest hit = refl
  value_is (event.Release label) v rest hit = refl

  work_values : (work : Work) → Hits plan id n work → values_on id (recordings work) ≡ values_named plan n (events_in work)
  work_values [] hits = refl
  work_values (told ∷ work) hits = value_is told.0 told.1 (recordings work) hits.0 ∙ ap (λ (l : List ℕ). cons_option (value_named plan n told.0) l) (work_values work hits.1)

  pub works_values : (works : List Work) → AllByRecursion (Hits plan id n) works → flat_map (λ (work : Work). values_on id (recordings work)) works ≡ values_named plan n (flat_map events_in works)
  works_values [] hits = refl
  works_values (work ∷ works) hits =
      both_appended (values_on id (recordings work)) (values_named plan n (events_in work)) (flat_map (λ (w : Work). values_on id (recordings w)) works) (values_named plan n (flat_map events_in works))
      (work_values work hits.0) (works_values works hits.1)
      ∙ sym (filter_map-append (value_named plan n) (events_in work) (flat_map events_in works))
