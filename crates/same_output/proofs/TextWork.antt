-- The texts that a log sets on a readout are those of the events that name it, where these stand in one file.
use Rattle.std.proofs.Common.{◌≡◌, ◌≢◌, ◌==◌, ◌&&◌, ◌≤◌, ℕ, cond, Bool, true, false, Option, None, Some, IsSome, List, [], ◌∷◌, ◌++◌, refl, ap, sym, ◌∙◌, subst, arith, inl, inr, ◌⊎◌, nat_le, append-nil}
use Rattle.std.specs.Prelude.{filter_map}
use Rattle.std.specs.List.{AllByRecursion, cons_option, list_all}
use Rattle.std.proofs.lemmas.Bool.{leb-true}
use Rattle.std.proofs.lemmas.List.Elements.{filter_map-append}
use Rattle.stat_defs.specs.declared.events.Event.{Event}
use Rattle.stat_defs.specs.declared.events.Event.TheVariants as event
use Rattle.stat_defs.specs.declared.events.Key.{Key}
use Rattle.stat_defs.specs.declared.history.Call.{Call}
use Rattle.stat_defs.specs.declared.history.Call.TheVariants as call
use Rattle.stat_defs.specs.declared.history.Entry.{Entry}
use Rattle.stat_defs.specs.declared.history.Verdict.{Verdict}
use Rattle.stat_defs.specs.declared.history.Verdict.TheVariants as verdict
use Rattle.book_state.specs.State.{State}
use Rattle.book_state.specs.Step.{effect}
use Rattle.book_state.specs.Log.{empty, is_sweep, fits_seat}
use Rattle.book_state.specs.Follows.{Own, own, event_key, SetsText, Finds, Makes, MakesAcked, Applied, IsChain, events_of, entries_of, state_after, Follows}
use Rattle.book_state.proofs.Lists.{true_false, both, eq_or}
use Rattle.ledger.specs.Ledger.{RunPlan}
use Rattle.ledger.specs.Work.{Work, events_in, verdicts_in}
use Rattle.ledger.proofs.Lists.{nil_cons, number_same}
use Rattle.all_accepted.specs.Admitted.{NamedKind, names_it, is_given}
use Rattle.same_output.specs.Independent.{AreIndependent}
use Rattle.all_accepted.proofs.InLists.{all_parts}
use Rattle.all_accepted.proofs.Accepted.{told_of, told_events, told_verdicts, same_work}
use Rattle.same_output.proofs.Texts.{text_of_call, texts_in}
use Rattle.same_output.proofs.Units.{Hits}

-- the text that an event sets on the readout of this number
abbrev pub text_in : ℕ → Event → Verdict → Option (List ℕ)
text_in id (event.SetText label name text) (verdict.Accepted given) = cond (given.0 == id) (Some text) None
text_in id e v = None

abbrev pub texts_told : ℕ → Work → List (List ℕ)
texts_told id work = filter_map (λ (told : Event × Verdict). text_in id told.0 told.1) work

-- the text that an event sets on the readout of this name
abbrev pub text_named : RunPlan → NamedKind → Event → Option (List ℕ)
text_named plan n (event.SetText label name text) = cond (names_it plan n (event.SetText label name text)) (Some text) None
text_named plan n other = None

abbrev pub texts_named : RunPlan → NamedKind → List Event → List (List ℕ)
texts_named plan n es = filter_map (text_named plan n) es

option_none : {X : Type 0} (o : Option X) (xs : List X) → cons_option o xs ≡ [] → (o ≡ None) × (xs ≡ [])
option_none None xs is = (refl, is)
option_none (Some x) xs is = absurd (nil_cons x xs (sym is))

module _ (id : ℕ) where
  abbrev pub texts_own : List Own → List (List ℕ)
  texts_own os = filter_map (λ (o : Own). text_of_call id o.call) os

  -- what an event makes sets its text
  abbrev Sets : Event → Verdict → List Own → Type 0
  Sets e v made = texts_own made ≡ cons_option (text_in id e v) []

  no_made : (made : List Own) → made ≡ [] → texts_own made ≡ []
  no_made made is = ap (λ (l : List Own). texts_own l) is

  sets : (e : Event) (v : Verdict) (made : List Own) → SetsText e v made → Sets e v made
  sets (event.SetText label name text) (verdict.Accepted given) [] is = absurd is
  sets (event.SetText label name text) (verdict.Accepted given) (o ∷ []) is = ap (λ (c : Call). cons_option (text_of_call id c) []) is
  sets (event.SetText label name text) (verdict.Accepted given) (o ∷ (p ∷ made)) is = absurd is
  sets (event.SetText label name text) (verdict.Opened given) made is = no_made made is
  sets (event.SetText label name text) (verdict.Released given) made is = no_made made is
  sets (event.SetText label name text) verdict.LabelTaken made is = no_made made is
  sets (event.SetText label name text) verdict.NoScope made is = no_made made is
  sets (event.SetText label name text) verdict.Rejected made is = no_made made is
  sets (event.SetText label name text) verdict.OverLimit made is = no_made made is
  sets (event.SetText label name text) verdict.NoRoom made is = no_made made is
  sets (event.Inc label name n) v made is = no_made made is
  sets (event.Gauge label name mode how n) v made is = no_made made is
  sets (event.Rec label name n) v made is = no_made made is
  sets (event.OpenScope label prefix) v made is = no_made made is
  sets (event.Release label) v made is = no_made made is

  other_first : (o : Own) (c : Call) (made : List Own) → o.call ≡ c → text_of_call id c ≡ None → texts_own (o ∷ made) ≡ texts_own made
  other_first o c made is none = ap (λ (t : Option (List ℕ)). cons_option t (texts_own made)) (ap (λ (x : Call). text_of_call id x) is ∙ none)

  finds : (key : Key) (e : Event) (v : Verdict) (held : Option Verdict) (made : List Own) → Finds key e v held made → Sets e v made
  finds key e v (Some h) made is = sets e v made is.1
  finds key e v None (o ∷ made) is = other_first o (call.Find key) made is.0 refl ∙ sets e v made is.2
  finds key e v None [] is = absurd is

  makes : (seat : ℕ) (s : State) (e : Event) (v : Verdict) (made : List Own) → IsSome (event_key e) → Makes seat s e v made → Sets e v made
  makes seat s (event.OpenScope label prefix) v made fits is = absurd (true_false (sym fits))
  makes seat s (event.Release label) v made fits is = absurd (true_false (sym fits))
  makes seat s (event.Inc label name n) v made fits is = finds _ (event.Inc label name n) v _ made is
  makes seat s (event.Gauge label name mode how n) v made fits is = finds _ (event.Gauge label name mode how n) v _ made is
  makes seat s (event.Rec label name n) v made fits is = finds _ (event.Rec label name n) v _ made is
  makes seat s (event.SetText label name text) v made fits is = finds _ (event.SetText label name text) v _ made is

  acked : (seat : ℕ) (s : State) (e : Event) (v : Verdict) (made : List Own) → IsSome (event_key e) → MakesAcked seat s e v made → Sets e v made
  acked seat s e v made fits (inl is) = makes seat s e v made fits is.1
  acked seat s e v made fits (inr is) =
      ap (λ (l : List Own). texts_own l) is.2 ∙ other_first is.0 call.Ack is.1 is.3 refl ∙ makes seat is.0.after e v is.1 fits is.4

  module _ (plan : RunPlan) (events : List (List Event)) (free : AreIndependent plan events) where
    chain : (seat : ℕ) (s : State) (applied : List Applied) → AllByRecursion (λ (e : Event). IsSome (event_key e)) (events_of applied) → IsChain seat s applied
        → texts_own (entries_of applied) ≡ texts_told id (told_of plan events free.room applied)
    chain seat s [] fits is = refl
    chain seat s (a ∷ before) fits is =
        let keys = all_parts (λ (e : Event). IsSome (event_key e)) (events_of before) (a.event ∷ []) fits in
        filter_map-append (λ (o : Own). text_of_call id o.call) (entries_of before) a.made
        ∙ ap (λ (l : List (List ℕ)). l ++ texts_own a.made) (chain seat s before keys.0 is.0)
        ∙ ap (λ (l : List (List ℕ)). texts_told id (told_of plan events free.room before) ++ l) (acked seat (state_after s before) a.event a.verdict a.made keys.1.0 is.1)
        ∙ sym (filter_map-append (λ (told : Event × Verdict). text_in id told.0 told.1) (told_of plan events free.room before) ((a.event, a.verdict) ∷ []))

    pub work_texts : (workers seat : ℕ) (work : Work) (log : List Entry) → AllByRecursion (λ (e : Event). IsSome (event_key e)) (events_in work) → Follows plan.rules workers seat (events_in work) (verdicts_in work) log
        → texts_own (own plan.rules seat (empty workers) log) ≡ texts_told id work
    work_texts workers seat work log fits follows =
        let of = follows.of_events in
        let keys = subst (λ (l : List Event). AllByRecursion (λ (e : Event). IsSome (event_key e)) l) of.events_are fits in
        let told = same_work plan events free.room (told_of plan events free.room of.applied) work (told_events plan events free.room of.applied ∙ sym of.events_are) (told_verdicts plan events free.room of.applied ∙ sym of.verdicts_are) in
        ap (λ (l : List Own). texts_own l) follows.own_are
        ∙ filter_map-append (λ (o : Own). text_of_call id o.call) follows.entries (follows.last ∷ [])
        ∙ ap (λ (l : List (List ℕ)). texts_own follows.entries ++ l) (other_first follows.last call.End [] follows.ends refl)
        ∙ append-nil (texts_own follows.entries)
        ∙ ap (λ (l : List Own). texts_own l) of.entries_are
        ∙ chain seat (empty workers) of.applied keys of.chain
        ∙ ap (λ (w : Work). texts_told id w) told

  -- by name
  module _ (plan : RunPlan) (n : NamedKind) where
    text_is : (e : Event) (v : Verdict) → is_given id v ≡ names_it plan n e → text_in id e v ≡ text_named plan n e
    text_is (event.SetText label name text) (verdict.Accepted given) hit = ap (λ (b : Bool). cond b (Some text) None) hit
    text_is (event.SetText label name text) (verdict.Opened given) hit = ap (λ (b : Bool). cond b (Some text) None) hit
    text_is (event.SetText label name text) (verdict.Released given) hit = ap (λ (b : Bool). cond b (Some text) None) hit
    text_is (event.SetText label name text) verdict.LabelTaken hit = ap (λ (b : Bool). cond b (Some text) None) hit
    text_is (event.SetText label name text) verdict.NoScope hit = ap (λ (b : Bool). cond b (Some text) None) hit
    text_is (event.SetText label name text) verdict.Rejected hit = ap (λ (b : Bool). cond b (Some text) None) hit
    text_is (event.SetText label name text) verdict.OverLimit hit = ap (λ (b : Bool). cond b (Some text) None) hit
    text_is (event.SetText label name text) verdict.NoRoom hit = ap (λ (b : Bool). cond b (Some text) None) hit
    text_is (event.Inc label name k) v hit = refl
    text_is (event.Gauge label name mode how k) v hit = refl
    text_is (event.Rec label name k) v hit = refl
    text_is (event.OpenScope label prefix) v hit = refl
    text_is (event.Release label) v hit = refl

    pub told_named : (work : Work) → Hits plan id n work → texts_told id work ≡ texts_named plan n (events_in work)
    told_named [] hits = refl
    told_named (told ∷ work) hits = both_options (text_in id told.0 told.1) (text_named plan n told.0) (texts_told id work) (texts_named plan n (events_in work)) (text_is told.0 told.1 hits.0) (told_named work hits.1) where
      both_options : (a b : Option (List ℕ)) (xs ys : List (List ℕ)) → a ≡ b → xs ≡ ys → cons_option a xs ≡ cons_option b ys
      both_options a b xs ys e f = λ i. cons_option (e i) (f i)

  -- an entry sets no text here, or is this seat's, a worker's
  abbrev FromOne : ℕ → Entry → Type 0
  FromOne one e = (text_of_call id e.call ≡ None) ⊎ ((e.seat ≡ one) × (1 ≤ e.seat))

  sweep_none : (c : Call) → is_sweep c ≡ true → text_of_call id c ≡ None
  sweep_none call.Sweep is = refl
  sweep_none (call.OpenScope label prefix) is = absurd (true_false (sym is))
  sweep_none (call.Release label) is = absurd (true_false (sym is))
  sweep_none (call.Find key) is = absurd (true_false (sym is))
  sweep_none (call.SetText given text) is = absurd (true_false (sym is))
  sweep_none call.Ack is = absurd (true_false (sym is))
  sweep_none call.End is = absurd (true_false (sym is))

  module _ (plan : RunPlan) where
    abbrev next : State → Entry → State
    next s e = effect plan.rules e.seat e.call e.reply s

    own_step : (w : ℕ) (s : State) (e : Entry) (log : List Entry) → texts_own (own plan.rules w s (e ∷ log)) ≡ cond (e.seat == w) (cons_option (text_of_call id e.call) (texts_own (own plan.rules w (next s e) log))) (texts_own (own plan.rules w (next s e) log))
    own_step w s e log = by_case (e.seat == w) where
      by_case : (t : Bool) → texts_own (cond t (record { call = e.call; reply = e.reply; after = effect plan.rules e.seat e.call e.reply s } ∷ own plan.rules w (effect plan.rules e.seat e.call e.reply s) log) (own plan.rules w (effect plan.rules e.seat e.call e.reply s) log))
          ≡ cond t (cons_option (text_of_call id e.call) (texts_own (own plan.rules w (effect plan.rules e.seat e.call e.reply s) log))) (texts_own (own plan.rules w (effect plan.rules e.seat e.call e.reply s) log))
      by_case true = refl
      by_case false = refl

    head_none : (w : ℕ) (s : State) (e : Entry) (log : List Entry) → (e.seat == w) ≡ true → texts_own (own plan.rules w s (e ∷ log)) ≡ [] → text_of_call id e.call ≡ None
    head_none w s e log is none =
        (option_none (text_of_call id e.call) (texts_own (own plan.rules w (next s e) log))
        (sym (own_step w s e log ∙ ap (λ (t : Bool). cond t (cons_option (text_of_call id e.call) (texts_own (own plan.rules w (next s e) log))) (texts_own (own plan.rules w (next s e) log))) is) ∙ none)).0

    tail_none : (w : ℕ) (s : State) (e : Entry) (log : List Entry) → texts_own (own plan.rules w s (e ∷ log)) ≡ [] → texts_own (own plan.rules w (next s e) log) ≡ []
    tail_none w s e log none = by_case (e.seat == w) (sym (own_step w s e log) ∙ none) where
      by_case : (t : Bool) → cond t (cons_option (text_of_call id e.call) (texts_own (own plan.rules w (effect plan.rules e.seat e.call e.reply s) log))) (texts_own (own plan.rules w (effect plan.rules e.seat e.call e.reply s) log)) ≡ []
          → texts_own (own plan.rules w (effect plan.rules e.seat e.call e.reply s) log) ≡ []
      by_case true is = (option_none (text_of_call id e.call) (texts_own (own plan.rules w (effect plan.rules e.seat e.call e.reply s) log)) is).1
      by_case false is = is

    pub from_one : (one workers : ℕ) (s : State) (log : List Entry) → ((w : ℕ) → 1 ≤ w → w ≤ workers → w ≢ one → texts_own (own plan.rules w s log) ≡ []) → list_all (fits_seat workers) log ≡ true
        → AllByRecursion (FromOne one) log
    from_one one workers s [] others fit = tt
    from_one one workers s (e ∷ log) others fit =
        let parts = both (fits_seat workers e) (list_all (fits_seat workers) log) fit in (
          by_case (is_sweep e.call) refl parts.0,
          from_one one workers (next s e) log (λ w above below other. tail_none w s e log (others w above below other)) parts.1,
        ) where
          by_case : (t : Bool) → is_sweep e.call ≡ t → fits_seat workers e ≡ true → FromOne one e
          by_case true is fits = inl (sweep_none e.call is)
          by_case false is fits =
              let worker = both (nat_le 1 e.seat) (nat_le e.seat workers) (sym (ap (λ (t : Bool). cond t (e.seat == 0) (nat_le 1 e.seat && nat_le e.seat workers)) is) ∙ fits) in
              elim (eq_or e.seat one) [
                | inl same ↦ inr (same, leb-true 1 e.seat worker.0)
                | inr other ↦ inl (head_none e.seat s e log (number_same e.seat e.seat refl) (others e.seat (leb-true 1 e.seat worker.0) (leb-true e.seat workers worker.1) other))
              ]

    -- the texts of the log are those of the one seat
    pub texts_of_one : (one : ℕ) (s : State) (log : List Entry) → AllByRecursion (FromOne one) log → texts_in plan.rules id log ≡ texts_own (own plan.rules one s log)
    texts_of_one one s [] all = refl
    texts_of_one one s (e ∷ log) all = ap (λ (l : List (List ℕ)). cons_option (text_of_call id e.call) l) (texts_of_one one (next s e) log all.1) ∙ by_case (e.seat == one) refl all.0 ∙ sym (own_step one s e log) where
      by_case : (t : Bool) → (e.seat == one) ≡ t → FromOne one e
          → cons_option (text_of_call id e.call) (texts_own (own plan.rules one (effect plan.rules e.seat e.call e.reply s) log))
          ≡ cond t (cons_option (text_of_call id e.call) (texts_own (own plan.rules one (effect plan.rules e.seat e.call e.reply s) log))) (texts_own (own plan.rules one (effect plan.rules e.seat e.call e.reply s) log))
      by_case true is from = refl
      by_case false is (inl none) = ap (λ (o : Option (List ℕ)). cons_option o (texts_own (own plan.rules one (effect plan.rules e.seat e.call e.reply s) log))) none
      by_case false is (inr same) = absurd (true_false (sym (number_same e.seat one same.0) ∙ is))

    -- and there are none where that seat is no worker's
    pub texts_of_none : (log : List Entry) → AllByRecursion (FromOne 0) log → texts_in plan.rules id log ≡ []
    texts_of_none [] all = refl
    texts_of_none (e ∷ log) all = ap (λ (l : List (List ℕ)). cons_option (text_of_call id e.call) l) (texts_of_none log all.1) ∙ by_case all.0 where
      by_case : FromOne 0 e → cons_option (text_of_call id e.call) [] ≡ []
      by_case (inl none) = ap (λ (o : Option (List ℕ)). cons_option o []) none
      by_case (inr same) = absurd (let zero = same.0 in let one = same.1 in omega (arith, zero, one))
