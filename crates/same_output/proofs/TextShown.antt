-- The text of a readout is the last one of the events that name it.
use Rattle.std.proofs.Common.{◌≡◌, ◌≢◌, ◌+◌, ◌≤◌, ◌<◌, ℕ, suc, cond, Bool, true, false, Option, None, Some, IsSome, List, [], ◌∷◌, ◌++◌, map, length, slice_get, refl, ap, sym, ◌∙◌, subst, arith, inl, inr, ◌⊎◌, append-nil}
use Rattle.std.specs.List.{AllByRecursion, flat_map, cons_option}
use Rattle.std.proofs.lemmas.List.Elements.{filter_map-append}
use Rattle.stat_defs.specs.declared.bins.Bound.{Bound}
use Rattle.stat_defs.specs.declared.configs.ScopeSpec.{ScopeSpec}
use Rattle.stat_defs.specs.declared.events.Event.{Event}
use Rattle.stat_defs.specs.declared.events.Event.TheVariants as event
use Rattle.stat_defs.specs.declared.history.Entry.{Entry}
use Rattle.stat_defs.specs.declared.ids.Kind.TheVariants.{Text}
use Rattle.stat_defs.specs.declared.reports.Report.{Report}
use Rattle.stat_defs.specs.declared.views.TextRow.{TextRow}
use Rattle.stat_defs.specs.Keys.{same_kind}
use Rattle.book_state.specs.State.{Row, State}
use Rattle.book_state.specs.Log.{empty, openings, replay_from}
use Rattle.book_state.specs.Follows.{own, event_key, Follows}
use Rattle.book_state.proofs.Lists.{not_some}
use Rattle.book_state.proofs.Safety.{empty_run}
use Rattle.ledger.specs.Ledger.{RunPlan, IsReportOf}
use Rattle.ledger.specs.Lists.{EachNumbered}
use Rattle.ledger.specs.Work.{Work, events_in, verdicts_in}
use Rattle.flush_view.specs.ByName.{by_name}
use Rattle.flush_view.specs.Views.{has_not_gone, text_row, metrics_shown, view_of}
use Rattle.all_accepted.specs.Admitted.{NamedKind, Names, names_it}
use Rattle.same_output.specs.Independent.{has_order, AreIndependent}
use Rattle.all_accepted.proofs.InLists.{In}
use Rattle.all_accepted.proofs.Accepted.{EventFits, own_behind}
use Rattle.all_accepted.proofs.Members.{IsUsed}
use Rattle.same_output.proofs.Moves.{Lonely}
use Rattle.same_output.proofs.Rows.{rows_by_name, names_shown}
use Rattle.all_accepted.proofs.Runs.{pick}
use Rattle.same_output.proofs.Shown.{p, book, before, last_is, before_is, pair_at, hits}
use Rattle.same_output.proofs.Sorting.{itself}
use Rattle.same_output.proofs.Texts.{text_at, texts_in, last_text, run_text}
use Rattle.same_output.proofs.TextWork.{texts_named, text_named, texts_own, work_texts, told_named, from_one, texts_of_one, texts_of_none}
use Rattle.all_accepted.proofs.Tight.{all_events, names_is}
use Rattle.same_output.proofs.Units.{Hits}

each_both : {X : Type 0} (P Q : ℕ → X → Type 0) (k : ℕ) (xs : List X) → EachNumbered P k xs → EachNumbered Q k xs → EachNumbered (λ n x. P n x × Q n x) k xs
each_both P Q k [] ps qs = tt
each_both P Q k (x ∷ xs) ps qs = ((ps.0, qs.0), each_both P Q (suc k) xs ps.1 qs.1)

each_of : {X : Type 0} (P : X → Type 0) (k : ℕ) (xs : List X) → AllByRecursion P xs → EachNumbered (λ n x. P x) k xs
each_of P k [] ps = tt
each_of P k (x ∷ xs) ps = (ps.0, each_of P (suc k) xs ps.1)

each_as : {X : Type 0} (P Q : ℕ → X → Type 0) (k : ℕ) (xs : List X) → ((n : ℕ) (x : X) → k ≤ n → P n x → Q n x) → EachNumbered P k xs → EachNumbered Q k xs
each_as P Q k [] f ps = tt
each_as P Q k (x ∷ xs) f ps = (f k x (omega arith) ps.0, each_as P Q (suc k) xs (λ n y above is. f n y (omega (arith, above)) is) ps.1)

-- the text of what has this name
abbrev pub text_of_name : RunPlan → List Event → List ℕ → TextRow
text_of_name plan es z = record { name = z; text = last_text plan.rules [] (texts_named plan (Text, z) es) }

module _ (plan : RunPlan) (n : NamedKind) where
  abbrev T : Work → List (List ℕ)
  T work = texts_named plan n (events_in work)

  abbrev all_T : List Work → List (List ℕ)
  all_T ws = texts_named plan n (flat_map events_in ws)

  T-cons : (w : Work) (ws : List Work) → all_T (w ∷ ws) ≡ T w ++ all_T ws
  T-cons w ws = filter_map-append (text_named plan n) (events_in w) (flat_map events_in ws)

  -- a list without the name sets no text, and one with a text has the name
  either : (es : List Event) → (texts_named plan n es ≡ []) ⊎ Names plan n es
  either [] = inl refl
  either (e ∷ es) = by_text (text_named plan n e) refl (either es) where
    of_event : (x : Event) (t : List ℕ) → text_named plan n x ≡ Some t → names_it plan n x ≡ true
    of_event (event.SetText label name text) t is = by_case (names_it plan n (event.SetText label name text)) is where
      by_case : (b : Bool) → cond b (Some text) None ≡ Some t → b ≡ true
      by_case true some = refl
      by_case false some = absurd (not_some t some)
    of_event (event.Inc label name k) t is = absurd (not_some t is)
    of_event (event.Gauge label name mode how k) t is = absurd (not_some t is)
    of_event (event.Rec label name k) t is = absurd (not_some t is)
    of_event (event.OpenScope label prefix) t is = absurd (not_some t is)
    of_event (event.Release label) t is = absurd (not_some t is)

    by_text : (o : Option (List ℕ)) → text_named plan n e ≡ o → (texts_named plan n es ≡ []) ⊎ Names plan n es → (texts_named plan n (e ∷ es) ≡ []) ⊎ Names plan n (e ∷ es)
    by_text (Some t) is rest = inr (e, (0, omega arith, refl), names_is plan n e (of_event e t is))
    by_text None is (inl none) = inl (ap (λ (o : Option (List ℕ)). cons_option o (texts_named plan n es)) is ∙ none)
    by_text None is (inr has) = inr (has.0, let at = has.1 in let low = at.1 in (suc at.0, omega (arith, low), at.2), has.2)

  none_of_others : (es : List Event) (ws : List Work) → has_order n.0 ≡ true → Names plan n es
      → AllByRecursion (λ other. (named : NamedKind) → has_order named.0 ≡ true → Names plan named es → Names plan named other → ⊥) (map events_in ws)
      → AllByRecursion (λ (w : Work). T w ≡ []) ws × (all_T ws ≡ [])
  none_of_others es [] order has apart = (tt, refl)
  none_of_others es (w ∷ ws) order has apart = elim (either (events_in w)) [
    | inr named ↦ absurd (apart.0 n order has named)
    | inl none ↦ let rest = none_of_others es ws order has apart.1 in ((none, rest.0), T-cons w ws ∙ ap (λ (l : List (List ℕ)). l ++ all_T ws) none ∙ rest.1)
  ]

  abbrev OfOne : ℕ → List (List ℕ) → ℕ → Work → Type 0
  OfOne one all w work = ((w ≡ one) × (T work ≡ all)) ⊎ ((w ≢ one) × (T work ≡ []))

  abbrev Split : ℕ → List Work → Type 0
  Split k ws = (AllByRecursion (λ (w : Work). T w ≡ []) ws × (all_T ws ≡ [])) ⊎ ((one : ℕ) × (k ≤ one) × (one < k + length ws) × EachNumbered (OfOne one (all_T ws)) k ws)

  split : (k : ℕ) (ws : List Work) → has_order n.0 ≡ true → Lonely plan (map events_in ws) → Split k ws
  split k [] order alone = inl (tt, refl)
  split k (w ∷ ws) order alone = elim (either (events_in w)) [
    | inl none ↦ elim (split (suc k) ws order alone.1) [
      | inl rest ↦ inl ((none, rest.0), T-cons w ws ∙ ap (λ (l : List (List ℕ)). l ++ all_T ws) none ∙ rest.1)
      | inr rest ↦
          let same : all_T ws ≡ all_T (w ∷ ws) = sym (T-cons w ws ∙ ap (λ (l : List (List ℕ)). l ++ all_T ws) none) in
          let above = rest.1 in let below = rest.2 in
          inr (rest.0, omega (arith, above), omega (arith, below), (inr ((λ is. omega (arith, is, above)), none), subst (λ (l : List (List ℕ)). EachNumbered (OfOne rest.0 l) (suc k) ws) same rest.3))
    ]
    | inr has ↦
        let others = none_of_others (events_in w) ws order has alone.0 in
        let same : T w ≡ all_T (w ∷ ws) = sym (T-cons w ws ∙ ap (λ (l : List (List ℕ)). T w ++ l) others.1 ∙ append-nil (T w)) in
        inr (
          k,
          omega arith,
          omega arith,
          (
            inl (refl, same),
            each_as (λ (m : ℕ) (x : Work). T x ≡ []) (OfOne k (all_T (w ∷ ws))) (suc k) ws (λ m x above is. inr ((λ e. omega (arith, e, above)), is)) (each_of (λ (x : Work). T x ≡ []) (suc k) ws others.0),
          ),
        )
  ]

module _ (plan : RunPlan) (events : List (List Event)) (free : AreIndependent plan events) (from : (n : NamedKind) → In free.room.names n → IsUsed plan events free.room (all_events events) n)
    (contents : List (Option (List ℕ))) (works : List Work) (report : Report) (is : IsReportOf contents events plan works report)
    (fits : AllByRecursion (λ (work : Work). AllByRecursion (EventFits plan events free.room) (events_in work)) works)
    (flat : flat_map events_in works ≡ all_events events) (alone : Lonely plan (map events_in works)) where
  abbrev here : State
  here = book plan events free from contents works report is fits flat

  abbrev first : State
  first = replay_from plan.rules (empty (length works)) (openings 0 plan.scopes)

  key_each : (es : List Event) → AllByRecursion (EventFits plan events free.room) es → AllByRecursion (λ (e : Event). IsSome (event_key e)) es
  key_each [] all = tt
  key_each (e ∷ es) all = (all.0.0, key_each es all.1)

  -- the texts of each seat
  seat_texts : (id : ℕ) (n : NamedKind) (k : ℕ) (ws : List Work) → 1 ≤ k → AllByRecursion (λ (work : Work). AllByRecursion (EventFits plan events free.room) (events_in work)) ws
      → AllByRecursion (Hits plan id n) ws → EachNumbered (λ w work. Follows plan.rules (length works) w (events_in work) (verdicts_in work) report.log) k ws
      → EachNumbered (λ w work. texts_own id (own plan.rules w first is.history.legal.rest) ≡ T plan n work) k ws
  seat_texts id n k [] above fit hit follows = tt
  seat_texts id n k (work ∷ ws) above fit hit follows = (
    ap (λ l. texts_own id l) (sym (own_behind plan events free.room (length works) k report.log is.history.legal above))
        ∙ work_texts id plan events free (length works) k work report.log (key_each (events_in work) fit.0) follows.0
        ∙ told_named id plan n work hit.0,
    seat_texts id n (suc k) ws (omega arith) fit.1 hit.1 follows.1,
  )

  no_text : (id k : ℕ) (scopes : List ScopeSpec) (rest : List Entry) → texts_in plan.rules id (openings k scopes ++ rest) ≡ texts_in plan.rules id rest
  no_text id k [] rest = refl
  no_text id k (scope ∷ scopes) rest = no_text id (suc k) scopes rest

  log_texts : (id : ℕ) (n : NamedKind) → has_order n.0 ≡ true → AllByRecursion (Hits plan id n) works → texts_in plan.rules id is.history.legal.rest ≡ texts_named plan n (all_events events)
  log_texts id n order hit =
      by_split (split plan n 1 works order alone) ∙ ap (λ (es : List Event). texts_named plan n es) flat where
        each : EachNumbered (λ w work. texts_own id (own plan.rules w first is.history.legal.rest) ≡ T plan n work) 1 works
        each = seat_texts id n 1 works (omega arith) fits hit is.history.follows

        by_split : Split plan n 1 works → texts_in plan.rules id is.history.legal.rest ≡ all_T plan n works
        by_split (inl none) =
            let all = each_both (λ w work. texts_own id (own plan.rules w first is.history.legal.rest) ≡ T plan n work) (λ w work. T plan n work ≡ []) 1 works each (each_of (λ work. T plan n work ≡ []) 1 works none.0) in
            texts_of_none id plan is.history.legal.rest
            (from_one id plan 0 (length works) first is.history.legal.rest
            (λ w above below other. let one = pick (λ w work. (texts_own id (own plan.rules w first is.history.legal.rest) ≡ T plan n work) × (T plan n work ≡ [])) 1 works all w above (omega (arith, below)) in one.1.0 ∙ one.1.1)
            is.history.legal.seats)
            ∙ sym none.1
        by_split (inr some) =
            let one : ℕ = some.0 in
            let all = each_both (λ w work. texts_own id (own plan.rules w first is.history.legal.rest) ≡ T plan n work) (OfOne plan n one (all_T plan n works)) 1 works each some.3 in
            let at = pick (λ w work. (texts_own id (own plan.rules w first is.history.legal.rest) ≡ T plan n work) × OfOne plan n one (all_T plan n works) w work) 1 works all in
            texts_of_one id plan one first is.history.legal.rest
            (from_one id plan one (length works) first is.history.legal.rest (λ w above below other. let there = at w above (omega (arith, below)) in others w other there.0 there.1.0 there.1.1) is.history.legal.seats)
            ∙ own_one (at one some.1 some.2) where
              others : (w : ℕ) → w ≢ some.0 → (work : Work) → texts_own id (own plan.rules w first is.history.legal.rest) ≡ T plan n work → OfOne plan n some.0 (all_T plan n works) w work → texts_own id (own plan.rules w first is.history.legal.rest) ≡ []
              others w other work same (inl mine) = absurd (other mine.0)
              others w other work same (inr none) = same ∙ none.1

              own_one : (work : Work) × ((texts_own id (own plan.rules some.0 first is.history.legal.rest) ≡ T plan n work) × OfOne plan n some.0 (all_T plan n works) some.0 work) → texts_own id (own plan.rules some.0 first is.history.legal.rest) ≡ all_T plan n works
              own_one (work, (same, inl mine)) = same ∙ mine.1
              own_one (work, (same, inr other)) = absurd (other.0 refl)

  text_is : (id : ℕ) (row : Row) → slice_get here.metrics id ≡ Some row → same_kind row.metric.kind Text ≡ true → text_at here id ≡ last_text plan.rules [] (texts_named plan (Text, row.metric.name) (all_events events))
  text_is id row there is_text =
      let n : NamedKind = (Text, row.metric.name) in
      let hit = hits plan events free from contents works report is fits flat id n (pair_at plan events free from contents works report is fits flat Text id row there is_text) in
      run_text plan.rules (empty (length works)) report.log id (empty_run (length works)) is.history.legal.steps
      ∙ ap (λ (l : List Entry). last_text plan.rules [] (texts_in plan.rules id l)) is.history.legal.begins
      ∙ ap (λ (l : List (List ℕ)). last_text plan.rules [] l) (no_text id 0 plan.scopes is.history.legal.rest ∙ log_texts id n refl hit)

  pub texts : (bounds : List ℕ → List Bound) → (view_of (record { names = plan.rules; bounds = bounds }) report.log (p plan events free from contents works report is fits flat).flush ((p plan events free from contents works report is fits flat).flush ∷ [])).texts
      ≡ map (text_of_name plan (all_events events)) (by_name itself (names_shown Text (has_not_gone (before plan events free from contents works report is fits flat)) here))
  texts bounds =
      let old : State = before plan events free from contents works report is fits flat in
      ap (λ (s : State). map (text_row old) (metrics_shown Text (has_not_gone old) s)) (last_is plan events free from contents works report is fits flat)
      ∙ rows_by_name Text (has_not_gone old) (text_row old) (text_of_name plan (all_events events)) here
      (λ id row there is_text.
      let text = ap (λ (s : State). text_at s id) (before_is plan events free from contents works report is fits flat) ∙ text_is id row there is_text in
      λ i. record { name = row.metric.name; text = text i })
