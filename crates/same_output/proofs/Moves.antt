-- Moves of gauges by name, where the events that name a gauge stand in one list.
use Rattle.std.proofs.Common.{◌≡◌, ◌≤◌, ◌<◌, ℕ, suc, cond, not, Bool, true, false, Option, None, Some, List, [], ◌∷◌, ◌++◌, map, length, refl, ap, sym, ◌∙◌, subst, arith, inl, inr, ◌⊎◌}
use Rattle.std.specs.Prelude.{filter, filter_map, AllPairs, slice_index_or}
use Rattle.std.specs.List.{AllByRecursion, flat_map, cons_option}
use Rattle.std.proofs.lemmas.List.Elements.{filter_map-append}
use Rattle.stat_defs.specs.declared.events.Event.{Event}
use Rattle.stat_defs.specs.declared.events.Event.TheVariants as event
use Rattle.stat_defs.specs.declared.history.Verdict.{Verdict}
use Rattle.stat_defs.specs.declared.history.Verdict.TheVariants as verdict
use Rattle.book_state.proofs.Lists.{not_some}
use Rattle.ledger.specs.Ledger.{RunPlan}
use Rattle.ledger.specs.Work.{Work, events_in}
use Rattle.ledger.specs.Gauges.{GaugeMove, move_in, moves_of, movers, all_moves, is_empty, word_of_moves, GaugeFits}
use Rattle.all_accepted.specs.Admitted.{NamedKind, Names, names_it, is_given}
use Rattle.same_output.specs.Independent.{has_order}
use Rattle.same_output.proofs.Units.{Hits}
use Rattle.all_accepted.proofs.Tight.{names_is}

-- what an event does to the gauge of this name
abbrev pub move_named : RunPlan → NamedKind → Event → Option GaugeMove
move_named plan n (event.Gauge label name mode how k) = cond (names_it plan n (event.Gauge label name mode how k)) (Some (how, k)) None
move_named plan n other = None

abbrev pub moves_named : RunPlan → NamedKind → List Event → List GaugeMove
moves_named plan n es = filter_map (move_named plan n) es

-- no two of these lists name one gauge or text
abbrev pub Lonely : RunPlan → List (List Event) → Type 0
Lonely plan [] = Unit {0}
Lonely plan (es ∷ lists) =
    AllByRecursion (λ other. (named : NamedKind) → has_order named.0 ≡ true → Names plan named es → Names plan named other → ⊥) lists × Lonely plan lists

module _ (plan : RunPlan) where
  abbrev Apart : List Event → List Event → Type 0
  Apart one other = (named : NamedKind) → has_order named.0 ≡ true → Names plan named one → Names plan named other → ⊥

  apart_tail : (es : List Event) (lists : List (List Event)) → AllPairs Apart (es ∷ lists) → AllPairs Apart lists
  apart_tail es lists all = λ i j d below within. all (suc i) (suc j) d (omega (arith, below)) (omega (arith, within))

  apart_head : (es : List Event) (lists : List (List Event)) → ((j : ℕ) (d : List Event) → j < length lists → Apart es (slice_index_or lists j d)) → AllByRecursion (λ other. Apart es other) lists
  apart_head es [] all = tt
  apart_head es (x ∷ lists) all = (all 0 es (omega arith), apart_head es lists (λ j d below. all (suc j) d (omega (arith, below))))

  pub lonely : (lists : List (List Event)) → AllPairs Apart lists → Lonely plan lists
  lonely [] all = tt
  lonely (es ∷ lists) all = (apart_head es lists (λ j d below. all 0 (suc j) d (omega arith) (omega (arith, below))), lonely lists (apart_tail es lists all))

  module _ (id : ℕ) (n : NamedKind) where
    move_is : (e : Event) (v : Verdict) → is_given id v ≡ names_it plan n e → move_in id (e, v) ≡ move_named plan n e
    move_is (event.Gauge label name mode how k) (verdict.Accepted given) hit = ap (λ (b : Bool). cond b (Some (how, k)) None) hit
    move_is (event.Gauge label name mode how k) (verdict.Opened given) hit = ap (λ (b : Bool). cond b (Some (how, k)) None) hit
    move_is (event.Gauge label name mode how k) (verdict.Released given) hit = ap (λ (b : Bool). cond b (Some (how, k)) None) hit
    move_is (event.Gauge label name mode how k) verdict.LabelTaken hit = ap (λ (b : Bool). cond b (Some (how, k)) None) hit
    move_is (event.Gauge label name mode how k) verdict.NoScope hit = ap (λ (b : Bool). cond b (Some (how, k)) None) hit
    move_is (event.Gauge label name mode how k) verdict.Rejected hit = ap (λ (b : Bool). cond b (Some (how, k)) None) hit
    move_is (event.Gauge label name mode how k) verdict.OverLimit hit = ap (λ (b : Bool). cond b (Some (how, k)) None) hit
    move_is (event.Gauge label name mode how k) verdict.NoRoom hit = ap (λ (b : Bool). cond b (Some (how, k)) None) hit
    move_is (event.Inc label name k) v hit = refl
    move_is (event.Rec label name k) v hit = refl
    move_is (event.SetText label name text) v hit = refl
    move_is (event.OpenScope label prefix) v hit = refl
    move_is (event.Release label) v hit = refl

    pub work_moves : (work : Work) → Hits plan id n work → moves_of id work ≡ moves_named plan n (events_in work)
    work_moves [] hits = refl
    work_moves (told ∷ work) hits =
        both_options (move_in id told) (move_named plan n told.0) (moves_of id work) (moves_named plan n (events_in work)) (move_is told.0 told.1 hits.0) (work_moves work hits.1) where
          both_options : (a b : Option GaugeMove) (xs ys : List GaugeMove) → a ≡ b → xs ≡ ys → cons_option a xs ≡ cons_option b ys
          both_options a b xs ys e f = λ i. cons_option (e i) (f i)

    pub movers_are : (works : List Work) → AllByRecursion (Hits plan id n) works
        → movers id works ≡ filter (λ (ms : List GaugeMove). not (is_empty ms)) (map (moves_named plan n) (map events_in works))
    movers_are works hits = ap (λ (by : List (List GaugeMove)). filter (λ (ms : List GaugeMove). not (is_empty ms)) by) (each works hits) where
      each : (ws : List Work) → AllByRecursion (Hits plan id n) ws → map (moves_of id) ws ≡ map (moves_named plan n) (map events_in ws)
      each [] hits = refl
      each (work ∷ ws) hits = λ i. work_moves work hits.0 i ∷ each ws hits.1 i

    -- all moves, in order
    flat_moves : (lists : List (List Event)) → all_moves (filter (λ (ms : List GaugeMove). not (is_empty ms)) (map (moves_named plan n) lists)) ≡ moves_named plan n (flat_map (λ (es : List Event). es) lists)
    flat_moves [] = refl
    flat_moves (es ∷ lists) =
        by_case (moves_named plan n es) (filter (λ (ms : List GaugeMove). not (is_empty ms)) (map (moves_named plan n) lists))
        ∙ ap (λ (ms : List GaugeMove). moves_named plan n es ++ ms) (flat_moves lists)
        ∙ sym (filter_map-append (move_named plan n) es (flat_map (λ (l : List Event). l) lists)) where
          by_case : (ms : List GaugeMove) (by : List (List GaugeMove)) → all_moves (cond (not (is_empty ms)) (ms ∷ by) by) ≡ ms ++ all_moves by
          by_case [] by = refl
          by_case (m ∷ ms) by = refl

    -- a list without the name has no move, and one with a move has the name
    either : (es : List Event) → (moves_named plan n es ≡ []) ⊎ Names plan n es
    either [] = inl refl
    either (e ∷ es) = by_move (move_named plan n e) refl (either es) where
      of_event : (x : Event) (m : GaugeMove) → move_named plan n x ≡ Some m → names_it plan n x ≡ true
      of_event (event.Gauge label name mode how k) m is = by_case (names_it plan n (event.Gauge label name mode how k)) is where
        by_case : (t : Bool) → cond t (Some (how, k)) None ≡ Some m → t ≡ true
        by_case true is_some = refl
        by_case false is_some = absurd (not_some m is_some)
      of_event (event.Inc label name k) m is = absurd (not_some m is)
      of_event (event.Rec label name k) m is = absurd (not_some m is)
      of_event (event.SetText label name text) m is = absurd (not_some m is)
      of_event (event.OpenScope label prefix) m is = absurd (not_some m is)
      of_event (event.Release label) m is = absurd (not_some m is)

      by_move : (o : Option GaugeMove) → move_named plan n e ≡ o → (moves_named plan n es ≡ []) ⊎ Names plan n es → (moves_named plan n (e ∷ es) ≡ []) ⊎ Names plan n (e ∷ es)
      by_move (Some m) is rest = inr (e, (0, omega arith, refl), names_is plan n e (of_event e m is))
      by_move None is (inl none) = inl (ap (λ (o : Option GaugeMove). cons_option o (moves_named plan n es)) is ∙ none)
      by_move None is (inr has) = inr (has.0, let at = has.1 in let low = at.1 in (suc at.0, omega (arith, low), at.2), has.2)

    abbrev some_of : List (List Event) → List (List GaugeMove)
    some_of lists = filter (λ (ms : List GaugeMove). not (is_empty ms)) (map (moves_named plan n) lists)

    none_of_others : (es : List Event) (lists : List (List Event)) → has_order n.0 ≡ true → Names plan n es → AllByRecursion (λ other. Apart es other) lists → some_of lists ≡ []
    none_of_others es [] order has apart = refl
    none_of_others es (x ∷ lists) order has apart = elim (either x) [
      | inl none ↦ ap (λ (ms : List GaugeMove). cond (not (is_empty ms)) (ms ∷ some_of lists) (some_of lists)) none ∙ none_of_others es lists order has apart.1
      | inr named ↦ absurd (apart.0 n order has named)
    ]

    few : (lists : List (List Event)) → has_order n.0 ≡ true → Lonely plan lists → length (some_of lists) ≤ 1
    few [] order alone = omega arith
    few (es ∷ lists) order alone = elim (either es) [
      | inl none ↦ let rest = few lists order alone.1 in subst (λ (ms : List GaugeMove). length (cond (not (is_empty ms)) (ms ∷ some_of lists) (some_of lists)) ≤ 1) (sym none) rest
      | inr has ↦ by_case (moves_named plan n es) (some_of lists) (none_of_others es lists order has alone.0)
    ] where
      by_case : (ms : List GaugeMove) (by : List (List GaugeMove)) → by ≡ [] → length (cond (not (is_empty ms)) (ms ∷ by) by) ≤ 1
      by_case [] by none = let e = ap (λ (l : List (List GaugeMove)). length l) none in omega (arith, e)
      by_case (m ∷ ms) by none = let e = ap (λ (l : List (List GaugeMove)). length l) none in omega (arith, e)

    -- the word of a gauge is that of the moves that name it
    pub word_is : (word : ℕ) (works : List Work) → AllByRecursion (Hits plan id n) works → has_order n.0 ≡ true → Lonely plan (map events_in works) → GaugeFits id word works
        → word ≡ word_of_moves (moves_named plan n (flat_map (λ (es : List Event). es) (map events_in works)))
    word_is word works hits order alone fits =
        let are = movers_are works hits in
        let one = few (map events_in works) order alone in
        fits.one_mover (subst (λ (by : List (List GaugeMove)). length by ≤ 1) (sym are) one)
        ∙ ap (λ (by : List (List GaugeMove)). word_of_moves (all_moves by)) are
        ∙ ap word_of_moves (flat_moves (map events_in works))
