-- The lines of the workers are told by the events of their files.
use Rattle.std.proofs.Common.{◌≡◌, ◌+◌, ℕ, not, Bool, true, false, List, [], ◌∷◌, ◌++◌, map, length, refl, ap, sym, ◌∙◌, arith}
use Rattle.std.specs.Prelude.{count_by, is_some, codes}
use Rattle.std.specs.Fmt.{decimal}
use Rattle.std.specs.List.{AllByRecursion, zip, enumerate_from}
use Rattle.stat_defs.specs.declared.events.Event.{Event}
use Rattle.stat_defs.specs.declared.history.Verdict.{Verdict}
use Rattle.book_state.proofs.Lists.{true_false, count_cons}
use Rattle.ledger.specs.Ledger.{RunPlan}
use Rattle.ledger.specs.Work.{Work, work_of, apart, together}
use Rattle.ledger.proofs.Lists.{nil_cons, head_same, tail_same, cons_same}
use Rattle.ledger.proofs.WorkLists.{lengths}
use Rattle.flush_view.specs.Output.{took_effect, worker_line}
use Rattle.all_accepted.specs.Admitted.{NamedKind, named_by, HasRoomForAll}
use Rattle.all_accepted.proofs.InLists.{all_apart}
use Rattle.all_accepted.proofs.Accepted.{IsTaken, of_files}
use Rattle.all_accepted.proofs.Named.{IsNamed}

pub both_ways : (s t : Bool) → (s ≡ true → t ≡ true) → (t ≡ true → s ≡ true) → s ≡ t
both_ways true t to from = sym (to refl)
both_ways false true to from = absurd (true_false (sym (from refl)))
both_ways false false to from = refl

abbrev pub took_all : List Verdict → List Bool
took_all vs = map took_effect vs

count_map : {X : Type 0} (p : X → Bool) (q : Bool → Bool) (xs : List X) → count_by (λ x. q (p x)) xs ≡ count_by q (map p xs)
count_map p q [] = refl
count_map p q (x ∷ xs) =
    let one = count_cons (λ y. q (p y)) x xs in
    let other = count_cons q (p x) (map p xs) in
    let rest = count_map p q xs in
    omega (arith, one, other, rest)

abbrev line : ℕ → ℕ → ℕ → List ℕ
line w a d = codes "# worker " ++ (decimal w ++ (codes ": " ++ (decimal a ++ (codes " accepted, " ++ (decimal d ++ codes " dropped\n")))))

line_same : (w : ℕ) (vs us : List Verdict) → took_all vs ≡ took_all us → worker_line (w, vs) ≡ worker_line (w, us)
line_same w vs us same =
    let took : count_by took_effect vs ≡ count_by took_effect us = count_map took_effect (λ b. b) vs ∙ ap (λ (bs : List Bool). count_by (λ b. b) bs) same ∙ sym (count_map took_effect (λ b. b) us) in
    let dropped : count_by (λ v. not (took_effect v)) vs ≡ count_by (λ v. not (took_effect v)) us = count_map took_effect not vs ∙ ap (λ (bs : List Bool). count_by not bs) same ∙ sym (count_map took_effect not us) in
    λ i. line w (took i) (dropped i)

pub lines_same : (w : ℕ) (vss uss : List (List Verdict)) → map took_all vss ≡ map took_all uss → map worker_line (enumerate_from w vss) ≡ map worker_line (enumerate_from w uss)
lines_same w [] [] same = refl
lines_same w [] (us ∷ uss) same = absurd (nil_cons (took_all us) (map took_all uss) same)
lines_same w (vs ∷ vss) [] same = absurd (nil_cons (took_all vs) (map took_all vss) (sym same))
lines_same w (vs ∷ vss) (us ∷ uss) same =
    cons_same (worker_line (w, vs)) (worker_line (w, us)) (map worker_line (enumerate_from (w + 1) vss)) (map worker_line (enumerate_from (w + 1) uss))
    (line_same w vs us (head_same (took_all vs) (took_all us) (map took_all vss) (map took_all uss) same))
    (lines_same (w + 1) vss uss (tail_same (took_all vs) (took_all us) (map took_all vss) (map took_all uss) same))

module _ (plan : RunPlan) (events : List (List Event)) (room : HasRoomForAll plan events) where
  abbrev has_name : Event → Bool
  has_name e = is_some (named_by plan e)

  abbrev Took : Event × Verdict → Type 0
  Took told = took_effect told.1 ≡ has_name told.0

  took_is : (all : List NamedKind) (e : Event) (v : Verdict) → IsNamed plan events room all e v → IsTaken plan events room e v → took_effect v ≡ has_name e
  took_is all e v named taken =
      both_ways (took_effect v) (has_name e)
      (λ took. let accepted = named.1 took in (named.0 accepted.0 accepted.1).1)
      (λ some. let accepted = taken some in ap took_effect accepted.1)

  work_took : (all : List NamedKind) (work : Work) → AllByRecursion (λ told. IsNamed plan events room all told.0 told.1) work → AllByRecursion (λ told. IsTaken plan events room told.0 told.1) work → AllByRecursion Took work
  work_took all [] named taken = tt
  work_took all (told ∷ work) named taken = (took_is all told.0 told.1 named.0 taken.0, work_took all work named.1 taken.1)

  pub works_took : (all : List NamedKind) (works : List Work) → AllByRecursion (λ (work : Work). AllByRecursion (λ told. IsNamed plan events room all told.0 told.1) work) works
      → AllByRecursion (λ (work : Work). AllByRecursion (λ told. IsTaken plan events room told.0 told.1) work) works → AllByRecursion (λ (work : Work). AllByRecursion (λ told. took_effect told.1 ≡ is_some (named_by plan told.0)) work) works
  works_took all [] named taken = tt
  works_took all (work ∷ works) named taken = (work_took all work named.0 taken.0, works_took all works named.1 taken.1)

  file_took : (es : List Event) (vs : List Verdict) → length vs ≡ length es → AllByRecursion Took (zip es vs) → took_all vs ≡ map has_name es
  file_took [] [] same all = refl
  file_took [] (v ∷ vs) same all = absurd (omega (arith, same))
  file_took (e ∷ es) [] same all = absurd (omega (arith, same))
  file_took (e ∷ es) (v ∷ vs) same all = cons_same (took_effect v) (has_name e) (took_all vs) (map has_name es) all.0 (file_took es vs (omega (arith, same)) all.1)

  files_took : (files : List (List Event)) (verdicts : List (List Verdict)) → lengths verdicts ≡ lengths files → AllByRecursion (λ file. AllByRecursion Took (work_of file)) (zip files verdicts)
      → map took_all verdicts ≡ map (λ (es : List Event). map has_name es) files
  files_took [] [] same all = refl
  files_took [] (vs ∷ verdicts) same all = absurd (nil_cons (length vs) (lengths verdicts) (sym same))
  files_took (es ∷ files) [] same all = absurd (nil_cons (length es) (lengths files) same)
  files_took (es ∷ files) (vs ∷ verdicts) same all =
      cons_same (took_all vs) (map has_name es) (map took_all verdicts) (map (λ (l : List Event). map has_name l) files)
      (file_took es vs (head_same (length vs) (length es) (lengths verdicts) (lengths files) same) all.0)
      (files_took files verdicts (tail_same (length vs) (length es) (lengths verdicts) (lengths files) same) all.1)

  pub apart_took : (verdicts : List (List Verdict)) → lengths verdicts ≡ lengths events → AllByRecursion (λ (work : Work). AllByRecursion (λ told. took_effect told.1 ≡ is_some (named_by plan told.0)) work) (apart events verdicts)
      → map took_all verdicts ≡ map (λ (es : List Event). map (λ (e : Event). is_some (named_by plan e)) es) events
  apart_took verdicts same all = files_took events verdicts same (of_files plan events room work_of (λ (work : Work). AllByRecursion Took work) (zip events verdicts) all)

  pub together_took : (verdicts : List (List Verdict)) → lengths verdicts ≡ lengths events → AllByRecursion (λ (work : Work). AllByRecursion (λ told. took_effect told.1 ≡ is_some (named_by plan told.0)) work) (together events verdicts)
      → map took_all verdicts ≡ map (λ (es : List Event). map (λ (e : Event). is_some (named_by plan e)) es) events
  together_took verdicts same all = files_took events verdicts same (all_apart Took work_of (zip events verdicts) all.0)
