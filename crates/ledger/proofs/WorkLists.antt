-- The work of files, one after another.
use Rattle.std.proofs.Common.{◌≡◌, ℕ, List, [], ◌∷◌, ◌++◌, map, length, refl, ap, sym, ◌∙◌, arith, append-nil}
use Rattle.std.specs.List.{zip, flat_map}
use Rattle.std.proofs.lemmas.List.{map-append}
use Rattle.std.proofs.lemmas.List.Concat.{flat_map-append}
use Rattle.stat_defs.specs.declared.events.Event.{Event}
use Rattle.stat_defs.specs.declared.history.Verdict.{Verdict}
use Rattle.ledger.specs.Work.{Work, events_in, verdicts_in, event_told, verdict_told, work_of, together}
use Rattle.ledger.proofs.Lists.{nil_cons, head_same, tail_same, both_appended}

pub zip_events : (es : List Event) (vs : List Verdict) → length vs ≡ length es → map event_told (zip es vs) ≡ es
zip_events [] vs e = refl
zip_events (x ∷ es) [] e = absurd (omega (arith, e))
zip_events (x ∷ es) (v ∷ vs) e = ap (λ (l : List Event). x ∷ l) (zip_events es vs (omega (arith, e)))

pub zip_verdicts : (es : List Event) (vs : List Verdict) → length vs ≡ length es → map verdict_told (zip es vs) ≡ vs
zip_verdicts [] [] e = refl
zip_verdicts [] (v ∷ vs) e = absurd (omega (arith, e))
zip_verdicts (x ∷ es) [] e = absurd (omega (arith, e))
zip_verdicts (x ∷ es) (v ∷ vs) e = ap (λ (l : List Verdict). v ∷ l) (zip_verdicts es vs (omega (arith, e)))

abbrev pub lengths : {X : Type 0} → List (List X) → List ℕ
lengths xss = map (λ xs. length xs) xss

pub events_back : (events : List (List Event)) (verdicts : List (List Verdict)) → lengths verdicts ≡ lengths events → events_in (flat_map work_of (zip events verdicts)) ≡ flat_map (λ es. es) events
events_back [] verdicts e = refl
events_back (es ∷ events) [] e = absurd (nil_cons (length es) (lengths events) e)
events_back (es ∷ events) (vs ∷ verdicts) e =
    map-append event_told (zip es vs) (flat_map work_of (zip events verdicts))
    ∙ both_appended (map event_told (zip es vs)) es (map event_told (flat_map work_of (zip events verdicts))) (flat_map (λ x. x) events)
    (zip_events es vs (head_same (length vs) (length es) (lengths verdicts) (lengths events) e)) (events_back events verdicts (tail_same (length vs) (length es) (lengths verdicts) (lengths events) e))

pub verdicts_back : (events : List (List Event)) (verdicts : List (List Verdict)) → lengths verdicts ≡ lengths events → verdicts_in (flat_map work_of (zip events verdicts)) ≡ flat_map (λ vs. vs) verdicts
verdicts_back [] [] e = refl
verdicts_back [] (vs ∷ verdicts) e = absurd (nil_cons (length vs) (lengths verdicts) (sym e))
verdicts_back (es ∷ events) [] e = absurd (nil_cons (length es) (lengths events) e)
verdicts_back (es ∷ events) (vs ∷ verdicts) e =
    map-append verdict_told (zip es vs) (flat_map work_of (zip events verdicts))
    ∙ both_appended (map verdict_told (zip es vs)) vs (map verdict_told (flat_map work_of (zip events verdicts))) (flat_map (λ x. x) verdicts)
    (zip_verdicts es vs (head_same (length vs) (length es) (lengths verdicts) (lengths events) e)) (verdicts_back events verdicts (tail_same (length vs) (length es) (lengths verdicts) (lengths events) e))

zip_more : {X Y : Type 0} (xs : List X) (ys : List Y) (more : List X) (others : List Y) → length ys ≡ length xs → zip (xs ++ more) (ys ++ others) ≡ zip xs ys ++ zip more others
zip_more [] [] more others e = refl
zip_more [] (y ∷ ys) more others e = absurd (omega (arith, e))
zip_more (x ∷ xs) [] more others e = absurd (omega (arith, e))
zip_more {X} {Y} (x ∷ xs) (y ∷ ys) more others e = ap (λ (l : List (X × Y)). (x, y) ∷ l) (zip_more xs ys more others (omega (arith, e)))

pub work_event : (es : List Event) (vs : List Verdict) (e : Event) (v : Verdict) → length vs ≡ length es → work_of (es ++ e ∷ [], vs ++ v ∷ []) ≡ work_of (es, vs) ++ (e, v) ∷ []
work_event es vs e v same = zip_more es vs (e ∷ []) (v ∷ []) same

pub work_file : (events : List (List Event)) (verdicts : List (List Verdict)) (es : List Event) (vs : List Verdict) → length verdicts ≡ length events
    → together (events ++ es ∷ []) (verdicts ++ vs ∷ []) ≡ (flat_map work_of (zip events verdicts) ++ work_of (es, vs)) ∷ []
work_file events verdicts es vs same =
    ap (λ (work : Work). work ∷ []) (
    ap (λ (files : List (List Event × List Verdict)). flat_map work_of files) (zip_more events verdicts (es ∷ []) (vs ∷ []) same)
    ∙ flat_map-append work_of (zip events verdicts) ((es, vs) ∷ [])
    ∙ ap (λ (work : Work). flat_map work_of (zip events verdicts) ++ work) (append-nil (work_of (es, vs))))
