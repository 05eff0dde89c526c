-- Each event of room files that names a metric is accepted.
use Rattle.std.proofs.Common.{◌≡◌, ◌≢◌, ◌==◌, ◌&&◌, ◌+◌, ◌<◌, ◌≤◌, nat_eq, nat_le, ℕ, zero, suc, cond, Bool, true, false, Option, None, Some, IsSome, List, [], ◌∷◌, ◌++◌, map, length, slice_get, append-nil, append_assoc, refl, ap, sym, ◌∙◌, subst, arith, inl, inr}
use Rattle.std.specs.Prelude.{option_map, option_and_then, Contains}
use Rattle.std.specs.Option.{option_map_or}
use Rattle.std.specs.List.{AllByRecursion, list_all, zip}
use Rattle.std.proofs.lemmas.Bool.{eqb-true, leb-true}
use Rattle.std.proofs.lemmas.List.{map-append}
use Rattle.std.proofs.lemmas.List.Elements.{All-cons}
use Rattle.stat_defs.specs.declared.configs.ScopeSpec.{ScopeSpec}
use Rattle.stat_defs.specs.declared.events.Event.{Event}
use Rattle.stat_defs.specs.declared.events.Event.TheVariants as event
use Rattle.stat_defs.specs.declared.events.Key.{Key}
use Rattle.stat_defs.specs.declared.history.Call.{Call}
use Rattle.stat_defs.specs.declared.history.Call.TheVariants as call
use Rattle.stat_defs.specs.declared.history.Reply.{Reply}
use Rattle.stat_defs.specs.declared.history.Reply.TheVariants as reply
use Rattle.stat_defs.specs.declared.history.Entry.{Entry}
use Rattle.stat_defs.specs.declared.history.Verdict.{Verdict}
use Rattle.stat_defs.specs.declared.history.Verdict.TheVariants as verdict
use Rattle.stat_defs.specs.declared.reports.Report.{Report}
use Rattle.stat_defs.specs.Keys.{Held, held_under, same_key, same_text, same_kind, same_mode}
use Rattle.stat_defs.specs.declared.metrics.Life.TheVariants.{Live}
use Rattle.book_state.specs.State.{Row, Seat, State, held_in}
use Rattle.book_state.specs.Step.{effect, Allowed}
use Rattle.book_state.specs.Log.{empty, openings, is_sweep, fits_seat, replay_from, Run, Legal}
use Rattle.book_state.specs.Laws.{AreOfOthers}
use Rattle.book_state.specs.Follows.{Own, own, verdict_of, held_verdict, event_key, SetsText, Finds, Makes, MakesAcked, Applied, IsChain, events_of, verdicts_of, entries_of, state_after, after_all, Follows}
use Rattle.book_state.proofs.Growing.{own_more, none_own}
use Rattle.book_state.proofs.Lists.{eq_or, true_false, both, not_some, some_same}
use Rattle.ledger.specs.Ledger.{RunPlan, RunLedger}
use Rattle.ledger.specs.Lists.{EachNumbered}
use Rattle.ledger.specs.Work.{Work, event_told, verdict_told, events_in, verdicts_in, apart}
use Rattle.ledger.proofs.Lists.{nil_cons, head_same, tail_same, cons_same, number_same}
use Rattle.all_accepted.specs.Admitted.{IsAccepted, NamedKind, key_named, named_by, Names, HasRoomForAll}
use Rattle.all_accepted.proofs.InLists.{all_parts, all_joined, In, in_list, Once}
use Rattle.all_accepted.proofs.States.{opened, IsRight, HasName, IsSettledState, KeepsSettled, find_right, step_settled, RightSeat, pair_of, same_kind_is}

pub members : {X : Type 0} (P : X → Type 0) (xs : List X) → ((x : X) → Contains xs x → P x) → AllByRecursion P xs
members P [] f = tt
members P (x ∷ xs) f = (f x (0, omega arith, refl), members P xs (λ y has. let low = has.1 in f y (suc has.0, omega (arith, low), has.2)))

pub text_is : (xs ys : List ℕ) → same_text xs ys ≡ true → xs ≡ ys
text_is [] [] same = refl
text_is [] (y ∷ ys) same = absurd (true_false (sym same))
text_is (x ∷ xs) [] same = absurd (true_false (sym same))
text_is (x ∷ xs) (y ∷ ys) same =
    let parts = both (nat_eq x y) (same_text xs ys) same in
    cons_same x y xs ys (eqb-true x y parts.0) (text_is xs ys parts.1)

-- a key with this label, kind and name means the same
pub key_is : (plan : RunPlan) (a b : Key) → same_key a b ≡ true → key_named plan a ≡ key_named plan b
key_is plan a b same =
    let one = both (same_text a.label b.label) _ same in
    let two = both (same_kind a.kind b.kind) _ one.1 in
    let three = both (same_mode a.mode b.mode) (same_text a.name b.name) two.1 in
    let label = text_is a.label b.label one.0 in
    let kind = same_kind_is a.kind b.kind two.0 in
    let name = text_is a.name b.name three.1 in
    λ i. key_named plan (record { label = label i; kind = kind i; mode = b.mode; name = name i })

module _ (plan : RunPlan) (events : List (List Event)) (room : HasRoomForAll plan events) where
  abbrev pub HasNames : Key → Type 0
  HasNames key = HasName plan room.names room.few room.few_histograms key

  abbrev pub IsSettled : State → Type 0
  IsSettled s = IsSettledState plan room.names room.few room.few_histograms s

  abbrev pub Keeps : Call → Type 0
  Keeps c = KeepsSettled plan room.names room.few room.few_histograms c

  -- an event of these files
  abbrev pub EventFits : Event → Type 0
  EventFits e = IsSome (event_key e) × ((key : Key) → event_key e ≡ Some key → HasNames key)

  pub file_fits : (file : List Event) → AllByRecursion (λ e. IsSome (event_key e)) file → ((named : NamedKind) → Names plan named file → Contains room.names named) → AllByRecursion EventFits file
  file_fits file keys named =
      all_both file keys (members (λ e. (key : Key) → event_key e ≡ Some key → HasNames key) file
      (λ e has key is n means. in_list room.names n (named n (e, has, ap (λ (o : Option Key). option_and_then (key_named plan) o) is ∙ means)))) where
        all_both : (xs : List Event) → AllByRecursion (λ e. IsSome (event_key e)) xs → AllByRecursion (λ e. (key : Key) → event_key e ≡ Some key → HasNames key) xs → AllByRecursion EventFits xs
        all_both [] a b = tt
        all_both (x ∷ xs) a b = ((a.0, b.0), all_both xs a.1 b.1)

  pub all_fit : (files : List (List Event)) → AllByRecursion (λ file. AllByRecursion (λ e. IsSome (event_key e)) file) files
      → AllByRecursion (λ file. (named : NamedKind) → Names plan named file → Contains room.names named) files → AllByRecursion (λ file. AllByRecursion EventFits file) files
  all_fit [] keys named = tt
  all_fit (file ∷ files) keys named = (file_fits file keys.0 named.0, all_fit files keys.1 named.1)

  -- what an event makes
  abbrev pub AreCalls : List Own → Type 0
  AreCalls made = AllByRecursion (λ o. Keeps o.call) made

  none_made : (made : List Own) → made ≡ [] → AreCalls made
  none_made made e = subst AreCalls (sym e) tt

  sets : (e : Event) (v : Verdict) (made : List Own) → SetsText e v made → AreCalls made
  sets (event.SetText label name text) (verdict.Accepted id) [] is = absurd is
  sets (event.SetText label name text) (verdict.Accepted id) (o ∷ []) is = (subst Keeps (sym is) tt, tt)
  sets (event.SetText label name text) (verdict.Accepted id) (o ∷ (p ∷ made)) is = absurd is
  sets (event.SetText label name text) (verdict.Opened id) made is = none_made made is
  sets (event.SetText label name text) (verdict.Released id) made is = none_made made is
  sets (event.SetText label name text) verdict.LabelTaken made is = none_made made is
  sets (event.SetText label name text) verdict.NoScope made is = none_made made is
  sets (event.SetText label name text) verdict.Rejected made is = none_made made is
  sets (event.SetText label name text) verdict.OverLimit made is = none_made made is
  sets (event.SetText label name text) verdict.NoRoom made is = none_made made is
  sets (event.Inc label name n) v made is = none_made made is
  sets (event.Gauge label name mode how n) v made is = none_made made is
  sets (event.Rec label name n) v made is = none_made made is
  sets (event.OpenScope label prefix) v made is = none_made made is
  sets (event.Release label) v made is = none_made made is

  finds : (key : Key) (e : Event) (v : Verdict) (held : Option Verdict) (made : List Own) → HasNames key → Finds key e v held made → AreCalls made
  finds key e v (Some h) made has is = sets e v made is.1
  finds key e v None (o ∷ made) has is = (subst Keeps (sym is.0) has, sets e v made is.2)
  finds key e v None [] has is = tt

  makes : (seat : ℕ) (s : State) (e : Event) (v : Verdict) (made : List Own) → EventFits e → Makes seat s e v made → AreCalls made
  makes seat s (event.OpenScope label prefix) v made fits is = absurd (true_false (sym fits.0))
  makes seat s (event.Release label) v made fits is = absurd (true_false (sym fits.0))
  makes seat s (event.Inc label name n) v made fits is = finds _ (event.Inc label name n) v _ made (fits.1 _ refl) is
  makes seat s (event.Gauge label name mode how n) v made fits is = finds _ (event.Gauge label name mode how n) v _ made (fits.1 _ refl) is
  makes seat s (event.Rec label name n) v made fits is = finds _ (event.Rec label name n) v _ made (fits.1 _ refl) is
  makes seat s (event.SetText label name text) v made fits is = finds _ (event.SetText label name text) v _ made (fits.1 _ refl) is

  acked : (seat : ℕ) (s : State) (e : Event) (v : Verdict) (made : List Own) → EventFits e → MakesAcked seat s e v made → AreCalls made
  acked seat s e v made fits (inl is) = makes seat s e v made fits is.1
  acked seat s e v made fits (inr is) = subst AreCalls (sym is.2) (subst Keeps (sym is.3) tt, makes seat is.0.after e v is.1 fits is.4)

  chain_calls : (seat : ℕ) (s : State) (applied : List Applied) → AllByRecursion EventFits (events_of applied) → IsChain seat s applied → AreCalls (entries_of applied)
  chain_calls seat s [] fits chain = tt
  chain_calls seat s (a ∷ before) fits chain =
      let parts = all_parts EventFits (events_of before) (a.event ∷ []) fits in
      all_joined (λ (o : Own). Keeps o.call) (entries_of before) a.made (chain_calls seat s before parts.0 chain.0) (acked seat (state_after s before) a.event a.verdict a.made parts.1.0 chain.1)

  pub own_calls : (workers seat : ℕ) (es : List Event) (vs : List Verdict) (log : List Entry) → AllByRecursion EventFits es → Follows plan.rules workers seat es vs log → AreCalls (own plan.rules seat (empty workers) log)
  own_calls workers seat es vs log fits follows =
      let of = follows.of_events in
      let calls = chain_calls seat (empty workers) of.applied (subst (λ (l : List Event). AllByRecursion EventFits l) of.events_are fits) of.chain in
      subst AreCalls (sym follows.own_are)
      (all_joined (λ (o : Own). Keeps o.call) follows.entries (follows.last ∷ []) (subst AreCalls (sym of.entries_are) calls) (subst Keeps (sym follows.ends) tt, tt))

  -- every entry behind the openings is a sweep, or a worker's
  sweep_call : (c : Call) → is_sweep c ≡ true → Keeps c
  sweep_call call.Sweep is = tt
  sweep_call (call.OpenScope label prefix) is = absurd (true_false (sym is))
  sweep_call (call.Release label) is = absurd (true_false (sym is))
  sweep_call (call.Find key) is = absurd (true_false (sym is))
  sweep_call (call.SetText id text) is = tt
  sweep_call call.Ack is = tt
  sweep_call call.End is = tt

  abbrev pub OfAll : ℕ → State → List Entry → Type 0
  OfAll workers s log = (w : ℕ) → 1 ≤ w → w ≤ workers → AreCalls (own plan.rules w s log)

  head_call : (w : ℕ) (s : State) (e : Entry) (log : List Entry) → (e.seat == w) ≡ true → AreCalls (own plan.rules w s (e ∷ log)) → Keeps e.call
  head_call w s e log is calls =
      let next : State = effect plan.rules e.seat e.call e.reply s in
      let here = subst (λ (t : Bool). AreCalls (cond t (record { call = e.call; reply = e.reply; after = next } ∷ own plan.rules w next log) (own plan.rules w next log))) is calls in here.0

  tail_calls : (w : ℕ) (s : State) (e : Entry) (log : List Entry) → AreCalls (own plan.rules w s (e ∷ log)) → AreCalls (own plan.rules w (effect plan.rules e.seat e.call e.reply s) log)
  tail_calls w s e log calls = by_case (e.seat == w) calls where
    by_case : (t : Bool) → AreCalls (cond t (record { call = e.call; reply = e.reply; after = effect plan.rules e.seat e.call e.reply s } ∷ own plan.rules w (effect plan.rules e.seat e.call e.reply s) log) (own plan.rules w (effect plan.rules e.seat e.call e.reply s) log))
        → AreCalls (own plan.rules w (effect plan.rules e.seat e.call e.reply s) log)
    by_case true all = all.1
    by_case false all = all

  pub log_calls : (workers : ℕ) (s : State) (log : List Entry) → OfAll workers s log → list_all (fits_seat workers) log ≡ true → AllByRecursion (λ e. Keeps e.call) log
  log_calls workers s [] of fit = tt
  log_calls workers s (e ∷ log) of fit =
      let parts = both (fits_seat workers e) (list_all (fits_seat workers) log) fit in (
        by_case (is_sweep e.call) refl parts.0,
        log_calls workers (effect plan.rules e.seat e.call e.reply s) log (λ w above below. tail_calls w s e log (of w above below)) parts.1,
      ) where
        by_case : (t : Bool) → is_sweep e.call ≡ t → fits_seat workers e ≡ true → Keeps e.call
        by_case true is fits = sweep_call e.call is
        by_case false is fits =
            let worker = both (nat_le 1 e.seat) (nat_le e.seat workers) (sym (ap (λ (t : Bool). cond t (e.seat == 0) (nat_le 1 e.seat && nat_le e.seat workers)) is) ∙ fits) in
            head_call e.seat s e log (number_same e.seat e.seat refl) (of e.seat (leb-true 1 e.seat worker.0) (leb-true e.seat workers worker.1))

  -- the reply to a find of a key that means a name accepts, and every state is room
  abbrev RightEntry : Call → Reply → Type 0
  RightEntry c r = (key : Key) (v : Verdict) → c ≡ call.Find key → IsSome (key_named plan key) → verdict_of r ≡ Some v → IsAccepted v

  abbrev IsRightOwn : Own → Type 0
  IsRightOwn o = RightEntry o.call o.reply × AllByRecursion (RightSeat plan) o.after.seats

  right_entry : (by : ℕ) (c : Call) (r : Reply) (s : State) → IsSettled s → Keeps c → Allowed plan.rules by c r s → RightEntry c r
  right_entry by c r s state keeps allowed key v is some told =
      let found = subst (λ (x : Call). Allowed plan.rules by x r s) is allowed in
      let has = subst Keeps is keeps in
      find_right plan room.names room.few room.few_histograms s state key has r found.1 some v told

  own_right : (w : ℕ) (s : State) (log : List Entry) → IsSettled s → AllByRecursion (λ e. Keeps e.call) log → Run plan.rules s log → AllByRecursion IsRightOwn (own plan.rules w s log)
  own_right w s [] state calls run = tt
  own_right w s (e ∷ log) state calls run =
      let next = step_settled plan room.names room.few room.few_histograms e.seat e.call e.reply s calls.0 run.0 state in
      by_case (e.seat == w) (right_entry e.seat e.call e.reply s state calls.0 run.0, next.held) (own_right w (effect plan.rules e.seat e.call e.reply s) log next calls.1 run.1) where
        by_case : (t : Bool) → RightEntry e.call e.reply × AllByRecursion (RightSeat plan) (effect plan.rules e.seat e.call e.reply s).seats
            → AllByRecursion IsRightOwn (own plan.rules w (effect plan.rules e.seat e.call e.reply s) log)
            → AllByRecursion IsRightOwn (cond t (record { call = e.call; reply = e.reply; after = effect plan.rules e.seat e.call e.reply s } ∷ own plan.rules w (effect plan.rules e.seat e.call e.reply s) log) (own plan.rules w (effect plan.rules e.seat e.call e.reply s) log))
        by_case true here rest = (here, rest)
        by_case false here rest = rest

  -- a verdict that is held is right
  abbrev HoldsRight : State → Type 0
  HoldsRight s = AllByRecursion (RightSeat plan) s.seats

  held_right : (s : State) (seat : ℕ) (key : Key) (v : Verdict) → HoldsRight s → held_verdict s seat key ≡ Some v → IsRight plan key v
  held_right s seat key v holds held = of_list (held_in s seat) (of_seat seat) held where
    at_place : (at : ℕ) (seats : List Seat) → AllByRecursion (RightSeat plan) seats → AllByRecursion (λ (h : Held). IsRight plan h.key h.verdict) (option_map_or (λ (row : Seat). row.held) (slice_get seats at) [])
    at_place at [] all = tt
    at_place zero (row ∷ seats) all = all.0
    at_place (suc at) (row ∷ seats) all = at_place at seats all.1

    of_seat : (n : ℕ) → AllByRecursion (λ (h : Held). IsRight plan h.key h.verdict) (held_in s n)
    of_seat zero = tt
    of_seat (suc at) = at_place at s.seats holds

    first : (t : Bool) (h : Held) (o : Option Held) → same_key h.key key ≡ t → IsRight plan h.key h.verdict → (option_map (λ (x : Held). x.verdict) o ≡ Some v → IsRight plan key v)
        → option_map (λ (x : Held). x.verdict) (cond t (Some h) o) ≡ Some v → IsRight plan key v
    first true h o same right rest e =
        λ some. subst IsAccepted (some_same h.verdict v e)
        (right (subst (λ (n : Option NamedKind). IsSome n) (sym (key_is plan h.key key same)) some))
    first false h o same right rest e = rest e

    of_list : (hs : List Held) → AllByRecursion (λ (h : Held). IsRight plan h.key h.verdict) hs → option_map (λ (h : Held). h.verdict) (held_under key hs) ≡ Some v → IsRight plan key v
    of_list [] all e = absurd (not_some v e)
    of_list (h ∷ hs) all e = first (same_key h.key key) h (held_under key hs) refl all.0 (of_list hs all.1) e

  -- so is the verdict on each event
  abbrev pub IsTaken : Event → Verdict → Type 0
  IsTaken e v = IsSome (named_by plan e) → IsAccepted v

  finds_right : (key : Key) (e : Event) (v : Verdict) (held : Option Verdict) (made : List Own) → ((h : Verdict) → held ≡ Some h → IsRight plan key h) → AllByRecursion IsRightOwn made
      → Finds key e v held made → IsRight plan key v
  finds_right key e v (Some h) made held all is = λ some. subst IsAccepted (sym is.0) (held h refl some)
  finds_right key e v None (o ∷ made) held all is = λ some. all.0.0 key v is.0 some is.1
  finds_right key e v None [] held all is = absurd is

  makes_right : (seat : ℕ) (s : State) (e : Event) (v : Verdict) (made : List Own) → HoldsRight s → AllByRecursion IsRightOwn made → Makes seat s e v made → IsTaken e v
  makes_right seat s (event.OpenScope label prefix) v made holds all is = λ some. absurd (true_false (sym some))
  makes_right seat s (event.Release label) v made holds all is = λ some. absurd (true_false (sym some))
  makes_right seat s (event.Inc label name n) v made holds all is = finds_right _ (event.Inc label name n) v _ made (λ h e. held_right s seat _ h holds e) all is
  makes_right seat s (event.Gauge label name mode how n) v made holds all is = finds_right _ (event.Gauge label name mode how n) v _ made (λ h e. held_right s seat _ h holds e) all is
  makes_right seat s (event.Rec label name n) v made holds all is = finds_right _ (event.Rec label name n) v _ made (λ h e. held_right s seat _ h holds e) all is
  makes_right seat s (event.SetText label name text) v made holds all is = finds_right _ (event.SetText label name text) v _ made (λ h e. held_right s seat _ h holds e) all is

  acked_right : (seat : ℕ) (s : State) (e : Event) (v : Verdict) (made : List Own) → HoldsRight s → AllByRecursion IsRightOwn made → MakesAcked seat s e v made → IsTaken e v
  acked_right seat s e v made holds all (inl is) = makes_right seat s e v made holds all is.1
  acked_right seat s e v made holds all (inr is) =
      let own_all = subst (λ (l : List Own). AllByRecursion IsRightOwn l) is.2 all in
      makes_right seat is.0.after e v is.1 own_all.0.1 own_all.1 is.4

  after_right : (s : State) (made : List Own) → HoldsRight s → AllByRecursion IsRightOwn made → HoldsRight (after_all s made)
  after_right s [] holds all = holds
  after_right s (o ∷ made) holds all = after_right o.after made all.0.1 all.1

  state_right : (s : State) (applied : List Applied) → HoldsRight s → AllByRecursion IsRightOwn (entries_of applied) → HoldsRight (state_after s applied)
  state_right s [] holds all = holds
  state_right s (a ∷ before) holds all =
      let parts = all_parts IsRightOwn (entries_of before) a.made all in
      after_right (state_after s before) a.made (state_right s before holds parts.0) parts.1

  abbrev pub told_of : List Applied → Work
  told_of [] = []
  told_of (a ∷ before) = told_of before ++ (a.event, a.verdict) ∷ []

  chain_right : (seat : ℕ) (s : State) (applied : List Applied) → HoldsRight s → AllByRecursion IsRightOwn (entries_of applied) → IsChain seat s applied
      → AllByRecursion (λ told. IsTaken told.0 told.1) (told_of applied)
  chain_right seat s [] holds all chain = tt
  chain_right seat s (a ∷ before) holds all chain =
      let parts = all_parts IsRightOwn (entries_of before) a.made all in
      all_joined (λ (told : Event × Verdict). IsTaken told.0 told.1) (told_of before) ((a.event, a.verdict) ∷ []) (chain_right seat s before holds parts.0 chain.0)
      (acked_right seat (state_after s before) a.event a.verdict a.made (state_right s before holds parts.0) parts.1 chain.1, tt)

  pub told_events : (applied : List Applied) → map event_told (told_of applied) ≡ events_of applied
  told_events [] = refl
  told_events (a ∷ before) = map-append event_told (told_of before) ((a.event, a.verdict) ∷ []) ∙ ap (λ (l : List Event). l ++ a.event ∷ []) (told_events before)

  pub told_verdicts : (applied : List Applied) → map verdict_told (told_of applied) ≡ verdicts_of applied
  told_verdicts [] = refl
  told_verdicts (a ∷ before) = map-append verdict_told (told_of before) ((a.event, a.verdict) ∷ []) ∙ ap (λ (l : List Verdict). l ++ a.verdict ∷ []) (told_verdicts before)

  pub same_work : (xs ys : Work) → map event_told xs ≡ map event_told ys → map verdict_told xs ≡ map verdict_told ys → xs ≡ ys
  same_work [] [] e f = refl
  same_work [] (y ∷ ys) e f = absurd (nil_cons y.0 (map event_told ys) e)
  same_work (x ∷ xs) [] e f = absurd (nil_cons x.0 (map event_told xs) (sym e))
  same_work (x ∷ xs) (y ∷ ys) e f =
      let one = head_same x.0 y.0 (map event_told xs) (map event_told ys) e in
      let other = head_same x.1 y.1 (map verdict_told xs) (map verdict_told ys) f in
      let first : ◌≡◌ {A = Event × Verdict} x y = λ i. (one i, other i) in
      cons_same x y xs ys first (same_work xs ys (tail_same x.0 y.0 (map event_told xs) (map event_told ys) e) (tail_same x.1 y.1 (map verdict_told xs) (map verdict_told ys) f))

  empty_right : (workers : ℕ) → HoldsRight (empty workers)
  empty_right zero = tt
  empty_right (suc n) = (tt, empty_right n)

  work_right : (workers seat : ℕ) (work : Work) (log : List Entry) → Follows plan.rules workers seat (events_in work) (verdicts_in work) log
      → AllByRecursion IsRightOwn (own plan.rules seat (empty workers) log) → AllByRecursion (λ told. IsTaken told.0 told.1) work
  work_right workers seat work log follows all =
      let of = follows.of_events in
      let entries = subst (λ (l : List Own). AllByRecursion IsRightOwn l) (follows.own_are ∙ ap (λ (l : List Own). l ++ follows.last ∷ []) of.entries_are) all in
      let parts = all_parts IsRightOwn (entries_of of.applied) (follows.last ∷ []) entries in
      let right = chain_right seat (empty workers) of.applied (empty_right workers) parts.0 of.chain in
      subst (λ (l : Work). AllByRecursion (λ (told : Event × Verdict). IsTaken told.0 told.1) l)
      (same_work (told_of of.applied) work (told_events of.applied ∙ sym of.events_are) (told_verdicts of.applied ∙ sym of.verdicts_are)) right

  -- the book behind the openings of the configuration
  opened_scopes : (id : ℕ) (scopes : List ScopeSpec) (s : State) → (replay_from plan.rules s (openings id scopes)).scopes ≡ s.scopes ++ map opened scopes
  opened_scopes id [] s = sym (append-nil s.scopes)
  opened_scopes id (x ∷ scopes) s =
      opened_scopes (suc id) scopes (effect plan.rules 0 (call.OpenScope x.label x.prefix) (reply.Opened (record { 0 = id })) s)
      ∙ append_assoc s.scopes (opened x ∷ []) (map opened scopes)

  opened_metrics : (id : ℕ) (scopes : List ScopeSpec) (s : State) → (replay_from plan.rules s (openings id scopes)).metrics ≡ s.metrics
  opened_metrics id [] s = refl
  opened_metrics id (x ∷ scopes) s = opened_metrics (suc id) scopes (effect plan.rules 0 (call.OpenScope x.label x.prefix) (reply.Opened (record { 0 = id })) s)

  pub opened_seats : (id : ℕ) (scopes : List ScopeSpec) (s : State) → (replay_from plan.rules s (openings id scopes)).seats ≡ s.seats
  opened_seats id [] s = refl
  opened_seats id (x ∷ scopes) s = opened_seats (suc id) scopes (effect plan.rules 0 (call.OpenScope x.label x.prefix) (reply.Opened (record { 0 = id })) s)

  pub behind_openings : (workers : ℕ) → IsSettled (replay_from plan.rules (empty workers) (openings 0 plan.scopes))
  behind_openings workers = record {
    scopes = opened_scopes 0 plan.scopes (empty workers);
    lives = subst (λ (l : List Row). AllByRecursion (λ (row : Row). row.metric.life ≡ Live) l) (sym (opened_metrics 0 plan.scopes (empty workers))) tt;
    named = subst (λ (l : List Row). AllByRecursion (In room.names) (map pair_of l)) (sym (opened_metrics 0 plan.scopes (empty workers))) tt;
    once = subst (λ (l : List Row). Once (map pair_of l)) (sym (opened_metrics 0 plan.scopes (empty workers))) tt;
    held = subst (λ (l : List Seat). AllByRecursion (RightSeat plan) l) (sym (opened_seats 0 plan.scopes (empty workers))) (empty_right workers);
  }

  openings_of_others : (seat id : ℕ) (scopes : List ScopeSpec) → 1 ≤ seat → AreOfOthers seat (openings id scopes)
  openings_of_others seat id [] worker = λ k d below. absurd (omega (arith, below))
  openings_of_others seat id (scope ∷ scopes) worker =
      All-cons (λ (e : Entry). seat ≢ e.seat) _ (openings (suc id) scopes) (λ same. omega (arith, worker, same)) (openings_of_others seat (suc id) scopes worker)

  pub run_behind : (s : State) (front rest : List Entry) → Run plan.rules s (front ++ rest) → Run plan.rules (replay_from plan.rules s front) rest
  run_behind s [] rest run = run
  run_behind s (e ∷ front) rest run = run_behind (effect plan.rules e.seat e.call e.reply s) front rest run.1

  pub own_behind : (workers seat : ℕ) (log : List Entry) (legal : Legal plan.rules plan.scopes workers log) → 1 ≤ seat
      → own plan.rules seat (empty workers) log ≡ own plan.rules seat (replay_from plan.rules (empty workers) (openings 0 plan.scopes)) legal.rest
  own_behind workers seat log legal worker =
      ap (λ (l : List Entry). own plan.rules seat (empty workers) l) legal.begins
      ∙ own_more plan.rules (empty workers) seat (openings 0 plan.scopes) legal.rest
      ∙ ap (λ (l : List Own). l ++ own plan.rules seat (replay_from plan.rules (empty workers) (openings 0 plan.scopes)) legal.rest)
      (none_own plan.rules (empty workers) seat (openings 0 plan.scopes) (openings_of_others seat 0 plan.scopes worker))

  zip_fits : (es : List Event) (vs : List Verdict) → AllByRecursion EventFits es → AllByRecursion EventFits (events_in (zip es vs))
  zip_fits [] vs fits = tt
  zip_fits (e ∷ es) [] fits = tt
  zip_fits (e ∷ es) (v ∷ vs) fits = (fits.0, zip_fits es vs fits.1)

  pub works_fit : (files : List (List Event)) (verdicts : List (List Verdict)) → AllByRecursion (λ file. AllByRecursion EventFits file) files
      → AllByRecursion (λ work. AllByRecursion EventFits (events_in work)) (apart files verdicts)
  works_fit [] verdicts fits = tt
  works_fit (file ∷ files) [] fits = tt
  works_fit (file ∷ files) (vs ∷ verdicts) fits = (zip_fits file vs fits.0, works_fit files verdicts fits.1)

  pub pick_calls : (workers : ℕ) (log : List Entry) (n : ℕ) (works : List Work) → EachNumbered (λ w work. Follows plan.rules workers w (events_in work) (verdicts_in work) log) n works
      → AllByRecursion (λ work. AllByRecursion EventFits (events_in work)) works → (w : ℕ) → n ≤ w → w < n + length works → AreCalls (own plan.rules w (empty workers) log)
  pick_calls workers log n [] follows fits w above below = absurd (omega (arith, above, below))
  pick_calls workers log n (work ∷ works) follows fits w above below = elim (eq_or n w) [
    | inl same ↦ subst (λ (k : ℕ). AreCalls (own plan.rules k (empty workers) log)) same (own_calls workers n (events_in work) (verdicts_in work) log fits.0 follows.0)
    | inr other ↦ pick_calls workers log (suc n) works follows.1 fits.1 w (omega (arith, above, other)) (omega (arith, below))
  ]

  pub each_right : (workers : ℕ) (log : List Entry) (legal : Legal plan.rules plan.scopes workers log) → AllByRecursion (λ e. Keeps e.call) legal.rest
      → (n : ℕ) (works : List Work) → 1 ≤ n → EachNumbered (λ w work. Follows plan.rules workers w (events_in work) (verdicts_in work) log) n works
      → AllByRecursion (λ work. AllByRecursion (λ told. IsTaken told.0 told.1) work) works
  each_right workers log legal calls n [] above follows = tt
  each_right workers log legal calls n (work ∷ works) above follows =
      let opened_state : State = replay_from plan.rules (empty workers) (openings 0 plan.scopes) in
      let run = run_behind (empty workers) (openings 0 plan.scopes) legal.rest (subst (λ (l : List Entry). Run plan.rules (empty workers) l) legal.begins legal.steps) in
      let all = own_right n opened_state legal.rest (behind_openings workers) calls run in (
        work_right workers n work log follows.0 (subst (λ (l : List Own). AllByRecursion IsRightOwn l) (sym (own_behind workers n log legal above)) all),
        each_right workers log legal calls (suc n) works (omega arith) follows.1,
      )

  pub of_files : {X Y : Type 0} (f : X → Y) (P : Y → Type 0) (xs : List X) → AllByRecursion P (map f xs) → AllByRecursion (λ x. P (f x)) xs
  of_files f P [] all = tt
  of_files f P (x ∷ xs) all = (all.0, of_files f P xs all.1)

  -- no entry behind the openings opens or releases a scope
  pub run_calls : (contents : List (Option (List ℕ))) (run : Report) (is : RunLedger contents events plan run) → AllByRecursion (λ e. Keeps e.call) is.history.legal.rest
  run_calls contents run is =
      let works : List Work = apart events run.verdicts in
      let workers : ℕ = length works in
      let legal : Legal plan.rules plan.scopes workers run.log = is.history.legal in
      let opened_state : State = replay_from plan.rules (empty workers) (openings 0 plan.scopes) in
      let fits = works_fit events run.verdicts (all_fit events room.no_scopes room.all_named) in
      log_calls workers opened_state legal.rest
      (λ w above below. subst AreCalls (own_behind workers w run.log legal above)
      (pick_calls workers run.log 1 works is.history.follows fits w above (omega (arith, below))))
      legal.seats
