-- What lawful work comes to: its units and its values are bounded by the number of its events.
use Rattle.std.proofs.Common.{◌≤◌, ◌<◌, ◌*◌, ◌^◌, ◌==◌, ℕ, suc, Bool, true, false, cond, Option, None, Some, List, [], ◌∷◌, ◌++◌, map, length, arith}
use Rattle.std.specs.Prelude.{filter, sum_by}
use Rattle.std.specs.List.{zip, flat_map, cons_option, AllByRecursion}
use Rattle.std.proofs.lemmas.List.Sums.{sum_by-cons}
use Rattle.std.proofs.lemmas.List.{length-append}
use Rattle.stat_defs.specs.declared.events.Event.{Event}
use Rattle.stat_defs.specs.declared.events.Event.TheVariants as event
use Rattle.stat_defs.specs.declared.history.Verdict.{Verdict}
use Rattle.stat_defs.specs.declared.history.Verdict.TheVariants as verdict
use Rattle.event_script.specs.declared.limits.TheConstants.{MAX_EVENTS}
use Rattle.event_script.specs.Grammar.{IsLawful}
use Rattle.merge_round.specs.Halves.{values_on}
use Rattle.ledger.specs.Work.{Work, Recording, work_of, apart, together, units_in, units_by, units_of, recording_in, recordings}
use Rattle.flush_view.proofs.FileEvents.{AreOfFile}

abbrev pub LawfulWork : Work → Type 0
LawfulWork work = AllByRecursion (λ told. IsLawful told.0) work

-- how many events the workers have
abbrev pub events_of : List Work → ℕ
events_of workers = sum_by (λ (work : Work). length work) workers

-- workers with lawful events, at most so many
pub record AreBounded (most : ℕ) (workers : List Work) : Type 0 where
  pub lawful : AllByRecursion LawfulWork workers
  pub few : events_of workers ≤ most

told_lawful : (es : List Event) (vs : List Verdict) → AllByRecursion IsLawful es → LawfulWork (zip es vs)
told_lawful [] vs all = tt
told_lawful (e ∷ es) [] all = tt
told_lawful (e ∷ es) (v ∷ vs) all = (all.0, told_lawful es vs all.1)

told_few : (es : List Event) (vs : List Verdict) → length (zip es vs) ≤ length es
told_few [] vs = omega arith
told_few (e ∷ es) [] = omega arith
told_few (e ∷ es) (v ∷ vs) = let rest = told_few es vs in omega (arith, rest)

-- as many events as so many files may have
abbrev pub events_in_files : ℕ → ℕ
events_in_files files = files * MAX_EVENTS

pub apart_bounded : (events : List (List Event)) (verdicts : List (List Verdict)) → AllByRecursion AreOfFile events
    → AreBounded (events_in_files (length events)) (apart events verdicts)
apart_bounded [] verdicts all = record { lawful = tt; few = omega arith }
apart_bounded (es ∷ events) [] all = record { lawful = tt; few = omega arith }
apart_bounded (es ∷ events) (vs ∷ verdicts) all =
    let rest = apart_bounded events verdicts all.1 in
    let few = all.0.0 in
    let fewer = rest.few in
    let told = told_few es vs in
    let whole = sum_by-cons (λ (work : Work). length work) (zip es vs) (apart events verdicts) in
    record { lawful = (told_lawful es vs all.0.1, rest.lawful); few = omega (arith, few, fewer, told, whole) }

both_lawful : (one other : Work) → LawfulWork one → LawfulWork other → LawfulWork (one ++ other)
both_lawful [] other a b = b
both_lawful (t ∷ one) other a b = (a.0, both_lawful one other a.1 b)

files_bounded : (events : List (List Event)) (verdicts : List (List Verdict)) → AllByRecursion AreOfFile events
    → LawfulWork (flat_map work_of (zip events verdicts))
    × (length (flat_map work_of (zip events verdicts)) ≤ events_in_files (length events))
files_bounded [] verdicts all = (tt, omega arith)
files_bounded (es ∷ events) [] all = (tt, omega arith)
files_bounded (es ∷ events) (vs ∷ verdicts) all =
    let rest = files_bounded events verdicts all.1 in
    let few = all.0.0 in
    let fewer = rest.1 in
    let told = told_few es vs in
    let whole = length-append (zip es vs) (flat_map work_of (zip events verdicts)) in (
      both_lawful (zip es vs) (flat_map work_of (zip events verdicts)) (told_lawful es vs all.0.1) rest.0,
      omega (arith, few, fewer, told, whole),
    )

pub together_bounded : (events : List (List Event)) (verdicts : List (List Verdict)) → AllByRecursion AreOfFile events
    → AreBounded (events_in_files (length events)) (together events verdicts)
together_bounded events verdicts all =
    let files = files_bounded events verdicts all in
    let few = files.1 in
    let whole = sum_by-cons (λ (work : Work). length work) (flat_map work_of (zip events verdicts)) [] in
    record { lawful = (files.0, tt); few = omega (arith, few, whole) }

-- units

unit_few : (id : ℕ) (e : Event) (v : Verdict) → IsLawful e → units_in id (e, v) ≤ 2 ^ 32
unit_few id (event.Inc label name n) (verdict.Accepted given) lawful = by_case (given.0 == id) where
  fits : n < 2 ^ 32
  fits = lawful.1.1.n_fits

  by_case : (b : Bool) → cond b n 0 ≤ 2 ^ 32
  by_case true = omega (arith, fits)
  by_case false = omega arith
unit_few id _ _ lawful = omega arith

units_few : (id : ℕ) (work : Work) → LawfulWork work → units_by id work ≤ length work * 2 ^ 32
units_few id [] lawful = omega arith
units_few id (told ∷ work) lawful =
    let one = unit_few id told.0 told.1 lawful.0 in
    let rest = units_few id work lawful.1 in
    let whole = sum_by-cons (units_in id) told work in
    omega (arith, one, rest, whole)

pub all_units_few : (id : ℕ) (workers : List Work) → AllByRecursion LawfulWork workers
    → units_of id workers ≤ events_of workers * 2 ^ 32
all_units_few id [] lawful = omega arith
all_units_few id (work ∷ workers) lawful =
    let one = units_few id work lawful.0 in
    let rest = all_units_few id workers lawful.1 in
    let whole = sum_by-cons (units_by id) work workers in
    let count = sum_by-cons (λ (w : Work). length w) work workers in
    omega (arith, one, rest, whole, count)

-- values

abbrev pub Fit64 : List Recording → Type 0
Fit64 recorded = AllByRecursion (λ (r : Recording). r.1 < 2 ^ 64) recorded

record_fits : (e : Event) (v : Verdict) (rest : List Recording) → IsLawful e → Fit64 rest
    → Fit64 (cons_option (recording_in (e, v)) rest)
record_fits (event.Rec label name v) (verdict.Accepted given) rest lawful fit = (lawful.1.1.v_fits, fit)
record_fits _ _ rest lawful fit = fit

pub records_fit : (work : Work) → LawfulWork work → Fit64 (recordings work)
records_fit [] lawful = tt
records_fit (told ∷ work) lawful = record_fits told.0 told.1 (recordings work) lawful.0 (records_fit work lawful.1)

one_more : (o : Option Recording) (rest : List Recording) → length (cons_option o rest) ≤ suc (length rest)
one_more None rest = omega arith
one_more (Some r) rest = omega arith

pub records_few : (work : Work) → length (recordings work) ≤ length work
records_few [] = omega arith
records_few (told ∷ work) =
    let one = one_more (recording_in told) (recordings work) in
    let rest = records_few work in
    omega (arith, one, rest)

module _ (id : ℕ) where
  abbrev kept : Bool → Recording → List Recording → List ℕ
  kept b r recorded =
      let rest : List Recording = filter (λ p. p.0 == id) recorded in
      map (λ (p : ℕ × ℕ). p.1) (cond b (r ∷ rest) rest)

  pub values_fit : (recorded : List Recording) → Fit64 recorded
      → AllByRecursion (λ v. v < 2 ^ 64) (values_on id recorded)
  values_fit [] fit = tt
  values_fit (r ∷ recorded) fit = by_case (r.0 == id) (values_fit recorded fit.1) where
    by_case : (b : Bool) → AllByRecursion (λ v. v < 2 ^ 64) (values_on id recorded)
        → AllByRecursion (λ v. v < 2 ^ 64) (kept b r recorded)
    by_case true rest = (fit.0, rest)
    by_case false rest = rest

  values_few : (recorded : List Recording) → length (values_on id recorded) ≤ length recorded
  values_few [] = omega arith
  values_few (r ∷ recorded) = by_case (r.0 == id) (values_few recorded) where
    by_case : (b : Bool) → length (values_on id recorded) ≤ length recorded
        → length (kept b r recorded) ≤ suc (length recorded)
    by_case true rest = omega (arith, rest)
    by_case false rest = omega (arith, rest)

  -- the values of all workers on a histogram
  abbrev pub values_of : List Work → List ℕ
  values_of workers = flat_map (λ work. values_on id (recordings work)) workers

  both_fit : (xs ys : List ℕ) → AllByRecursion (λ v. v < 2 ^ 64) xs → AllByRecursion (λ v. v < 2 ^ 64) ys
      → AllByRecursion (λ v. v < 2 ^ 64) (xs ++ ys)
  both_fit [] ys a b = b
  both_fit (x ∷ xs) ys a b = (a.0, both_fit xs ys a.1 b)

  pub all_values_fit : (workers : List Work) → AllByRecursion LawfulWork workers
      → AllByRecursion (λ v. v < 2 ^ 64) (values_of workers)
  all_values_fit [] lawful = tt
  all_values_fit (work ∷ workers) lawful =
      both_fit (values_on id (recordings work)) (values_of workers)
      (values_fit (recordings work) (records_fit work lawful.0)) (all_values_fit workers lawful.1)

  pub all_values_few : (workers : List Work) → length (values_of workers) ≤ events_of workers
  all_values_few [] = omega arith
  all_values_few (work ∷ workers) =
      let own = values_few (recordings work) in
      let recorded = records_few work in
      let rest = all_values_few workers in
      let whole = length-append (values_on id (recordings work)) (values_of workers) in
      let count = sum_by-cons (λ (w : Work). length w) work workers in
      omega (arith, own, recorded, rest, whole, count)
