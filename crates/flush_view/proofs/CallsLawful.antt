-- The calls in the log of a ledger are lawful.
use Rattle.std.proofs.Common.{◌≡◌, ◌==◌, ◌&&◌, ◌≤◌, ◌<◌, ◌+◌, ℕ, suc, Bool, true, false, cond, Option, None, Some, nat_le, List, [], ◌∷◌, ◌++◌, length, refl, ap, sym, ◌∙◌, subst, arith, inl, inr}
use Rattle.std.specs.List.{list_all, AllByRecursion}
use Rattle.std.proofs.lemmas.Bool.{cases_Bool, cases_lt}
use Rattle.std.proofs.lemmas.Bool.Decides.{Decides-eqb}
use Rattle.stat_defs.specs.declared.configs.ScopeSpec.{ScopeSpec}
use Rattle.stat_defs.specs.declared.events.Event.{Event}
use Rattle.stat_defs.specs.declared.events.Event.TheVariants as event
use Rattle.stat_defs.specs.declared.events.Key.{Key}
use Rattle.stat_defs.specs.declared.history.Call.{Call}
use Rattle.stat_defs.specs.declared.history.Call.TheVariants as call
use Rattle.stat_defs.specs.declared.history.Entry.{Entry}
use Rattle.stat_defs.specs.declared.history.Verdict.{Verdict}
use Rattle.stat_defs.specs.declared.history.Verdict.TheVariants as verdict
use Rattle.stat_defs.specs.declared.reports.Report.{Report}
use Rattle.stat_defs.specs.Configs.{IsScopeSpec}
use Rattle.stat_defs.specs.Events.{IsLawfulEvent}
use Rattle.stat_defs.specs.Names.{IsLocalName}
use Rattle.event_script.proofs.Written.{lawful_event}
use Rattle.book_state.specs.Follows.{Own, own, Applied, MakesOne, SetsText, Finds, Makes, MakesAcked, IsChain, events_of, entries_of, state_after, Follows}
use Rattle.book_state.specs.Log.{empty, openings, is_sweep, fits_seat}
use Rattle.book_state.specs.State.{NameRules, State}
use Rattle.book_state.specs.Step.{effect}
use Rattle.book_state.specs.Stored.{IsLawfulCall}
use Rattle.book_state.proofs.Lists.{both, eq_or, true_false}
use Rattle.ledger.specs.Ledger.{RunPlan, HasHistory}
use Rattle.ledger.specs.Lists.{EachNumbered}
use Rattle.ledger.specs.Work.{Work, events_in, verdicts_in}
use Rattle.flush_view.proofs.Ends.{within}
use Rattle.flush_view.proofs.Recorded.{LawfulWork}

abbrev AreLawfulOwn : List Own → Type 0
AreLawfulOwn made = AllByRecursion (λ o. IsLawfulCall o.call) made

one_lawful : (c : Call) (v : Verdict) (made : List Own) → IsLawfulCall c → MakesOne c v made → AreLawfulOwn made
one_lawful c v [] lawful is = absurd is
one_lawful c v (o ∷ []) lawful is = (subst IsLawfulCall (sym is.0) lawful, tt)
one_lawful c v (o ∷ (p ∷ made)) lawful is = absurd is

none_lawful : (made : List Own) → made ≡ [] → AreLawfulOwn made
none_lawful made is = subst AreLawfulOwn (sym is) tt

sets_lawful : (e : Event) (v : Verdict) (made : List Own) → SetsText e v made → AreLawfulOwn made
sets_lawful (event.SetText label name text) (verdict.Accepted id) [] is = absurd is
sets_lawful (event.SetText label name text) (verdict.Accepted id) (o ∷ []) is = (subst IsLawfulCall (sym is) tt, tt)
sets_lawful (event.SetText label name text) (verdict.Accepted id) (o ∷ (p ∷ made)) is = absurd is
sets_lawful _ _ made is = none_lawful made is

finds_lawful : (key : Key) (e : Event) (v : Verdict) (held : Option Verdict) (made : List Own) → IsLocalName key.name
    → Finds key e v held made → AreLawfulOwn made
finds_lawful key e v (Some held) made name is = sets_lawful e v made is.1
finds_lawful key e v None [] name is = absurd is
finds_lawful key e v None (o ∷ made) name is = (subst IsLawfulCall (sym is.0) name, sets_lawful e v made is.2)

event_calls : (seat : ℕ) (s : State) (e : Event) (v : Verdict) (made : List Own) → IsLawfulEvent e
    → Makes seat s e v made → AreLawfulOwn made
event_calls seat s (event.OpenScope label prefix) v made lawful is =
    one_lawful (call.OpenScope label prefix) v made lawful.1.fits is
event_calls seat s (event.Release label) v made lawful is = one_lawful (call.Release label) v made tt is
event_calls seat s (event.Inc label name n) v made lawful is =
    finds_lawful _ (event.Inc label name n) v _ made lawful.1 is
event_calls seat s (event.Gauge label name mode op n) v made lawful is =
    finds_lawful _ (event.Gauge label name mode op n) v _ made lawful.1 is
event_calls seat s (event.Rec label name n) v made lawful is =
    finds_lawful _ (event.Rec label name n) v _ made lawful.1 is
event_calls seat s (event.SetText label name text) v made lawful is =
    finds_lawful _ (event.SetText label name text) v _ made lawful.1 is

acked_calls : (seat : ℕ) (s : State) (e : Event) (v : Verdict) (made : List Own) → IsLawfulEvent e
    → MakesAcked seat s e v made → AreLawfulOwn made
acked_calls seat s e v made lawful (inl is) = event_calls seat s e v made lawful is.1
acked_calls seat s e v made lawful (inr is) =
    subst AreLawfulOwn (sym is.2) (subst IsLawfulCall (sym is.3) tt, event_calls seat is.0.after e v is.1 lawful is.4)

module _ {X : Type 0} (P : X → Type 0) where
  joined : (xs ys : List X) → AllByRecursion P xs → AllByRecursion P ys → AllByRecursion P (xs ++ ys)
  joined [] ys a b = b
  joined (x ∷ xs) ys a b = (a.0, joined xs ys a.1 b)

  parted : (xs ys : List X) → AllByRecursion P (xs ++ ys) → AllByRecursion P xs × AllByRecursion P ys
  parted [] ys all = (tt, all)
  parted (x ∷ xs) ys all = let rest = parted xs ys all.1 in ((all.0, rest.0), rest.1)

chain_calls : (seat : ℕ) (s : State) (applied : List Applied) → AllByRecursion IsLawfulEvent (events_of applied)
    → IsChain seat s applied
    → AreLawfulOwn (entries_of applied)
chain_calls seat s [] lawful chain = tt
chain_calls seat s (a ∷ before) lawful chain =
    let parts = parted IsLawfulEvent (events_of before) (a.event ∷ []) lawful in
    joined (λ o. IsLawfulCall o.call) (entries_of before) a.made (chain_calls seat s before parts.0 chain.0)
    (acked_calls seat (state_after s before) a.event a.verdict a.made parts.1.0 chain.1)

-- an entry of this seat is lawful
abbrev OfSeat : ℕ → Entry → Type 0
OfSeat seat e = (e.seat == seat) ≡ true → IsLawfulCall e.call

own_calls : (rules : NameRules) (seat : ℕ) (s : State) (log : List Entry) → AreLawfulOwn (own rules seat s log)
    → AllByRecursion (OfSeat seat) log
own_calls rules seat s [] lawful = tt
own_calls rules seat s (e ∷ log) lawful =
    let next : State = effect rules e.seat e.call e.reply s in
    by_case next (e.seat == seat) refl lawful (λ rest. own_calls rules seat next log rest) where
      by_case : (next : State) (b : Bool) → (e.seat == seat) ≡ b
          → AreLawfulOwn (cond b (record { call = e.call; reply = e.reply; after = next } ∷ own rules seat next log)
          (own rules seat next log))
          → (AreLawfulOwn (own rules seat next log) → AllByRecursion (OfSeat seat) log)
          → AllByRecursion (OfSeat seat) (e ∷ log)
      by_case next true same all rest = ((λ mine. all.0), rest all.1)
      by_case next false other all rest = ((λ mine. absurd (true_false (sym mine ∙ other))), rest all)

told_lawful : (work : Work) → LawfulWork work → AllByRecursion IsLawfulEvent (events_in work)
told_lawful [] lawful = tt
told_lawful (told ∷ work) lawful = (lawful_event told.0 lawful.0, told_lawful work lawful.1)

seat_calls : (rules : NameRules) (n seat : ℕ) (work : Work) (log : List Entry) → LawfulWork work
    → Follows rules n seat (events_in work) (verdicts_in work) log → AllByRecursion (OfSeat seat) log
seat_calls rules n seat work log lawful follows =
    let applied : List Applied = follows.of_events.applied in
    let events = subst (λ (es : List Event). AllByRecursion IsLawfulEvent es) follows.of_events.events_are
    (told_lawful work lawful) in
    let entries = subst AreLawfulOwn (sym follows.of_events.entries_are)
    (chain_calls seat (empty n) applied events follows.of_events.chain) in
    let last : AreLawfulOwn (follows.last ∷ []) = (subst IsLawfulCall (sym follows.ends) tt, tt) in
    own_calls rules seat (empty n) log
    (subst AreLawfulOwn (sym follows.own_are)
    (joined (λ o. IsLawfulCall o.call) follows.entries (follows.last ∷ []) entries last))

module _ (rules : NameRules) (n : ℕ) (log : List Entry) where
  each_seat : (k : ℕ) (workers : List Work) → AllByRecursion LawfulWork workers
      → EachNumbered (λ seat work. Follows rules n seat (events_in work) (verdicts_in work) log) k workers
      → (seat : ℕ) → k ≤ seat → seat < k + length workers → AllByRecursion (OfSeat seat) log
  each_seat k [] lawful each seat low high = absurd (omega (arith, low, high))
  each_seat k (work ∷ workers) lawful each seat low high = elim (eq_or k seat) [
    | inl same ↦ subst (λ (m : ℕ). AllByRecursion (OfSeat m) log) same (seat_calls rules n k work log lawful.0 each.0)
    | inr apart ↦ each_seat (suc k) workers lawful.1 each.1 seat (above low apart) (omega (arith, high))
  ] where
    above : k ≤ seat → (k ≡ seat → ⊥) → suc k ≤ seat
    above low apart = elim (cases_lt k seat) [
      | inl less ↦ omega (arith, less)
      | inr not_less ↦ absurd (apart (omega (arith, low, not_less)))
    ]

-- an entry of any of the workers is lawful
abbrev OfAny : ℕ → Entry → Type 0
OfAny n e = (seat : ℕ) → 1 ≤ seat → seat < 1 + n → OfSeat seat e

of_any : (n : ℕ) (log : List Entry) → ((seat : ℕ) → 1 ≤ seat → seat < 1 + n → AllByRecursion (OfSeat seat) log)
    → AllByRecursion (OfAny n) log
of_any n [] each = tt
of_any n (e ∷ log) each =
    ((λ seat low high. (each seat low high).0), of_any n log (λ seat low high. (each seat low high).1))

sweep_lawful : (c : Call) → is_sweep c ≡ true → IsLawfulCall c
sweep_lawful call.Sweep is = tt
sweep_lawful _ is = absurd (true_false (sym is))

entry_lawful : (n : ℕ) (e : Entry) → fits_seat n e ≡ true → OfAny n e → IsLawfulCall e.call
entry_lawful n e fits any = elim (cases_Bool (is_sweep e.call)) [
  | inl sweeps ↦ sweep_lawful e.call sweeps
  | inr other ↦
      let inside = within n e.seat
      (sym (ap (λ b. cond b (e.seat == 0) (nat_le 1 e.seat && nat_le e.seat n)) other) ∙ fits) in
      any e.seat inside.0 inside.1 ((Decides-eqb e.seat e.seat).1 refl)
]

abbrev AreLawfulCalls : List Entry → Type 0
AreLawfulCalls log = AllByRecursion (λ entry. IsLawfulCall entry.call) log

rest_lawful : (n : ℕ) (log : List Entry) → list_all (fits_seat n) log ≡ true → AllByRecursion (OfAny n) log
    → AreLawfulCalls log
rest_lawful n [] fits any = tt
rest_lawful n (e ∷ log) fits any =
    let parts = both (fits_seat n e) (list_all (fits_seat n) log) fits in
    (entry_lawful n e parts.0 any.0, rest_lawful n log parts.1 any.1)

openings_lawful : (id : ℕ) (scopes : List ScopeSpec) → AllByRecursion IsScopeSpec scopes
    → AreLawfulCalls (openings id scopes)
openings_lawful id [] lawful = tt
openings_lawful id (scope ∷ scopes) lawful = (lawful.0.prefix, openings_lawful (suc id) scopes lawful.1)

pub calls_lawful : (plan : RunPlan) (workers : List Work) (report : Report) → AllByRecursion IsScopeSpec plan.scopes
    → AllByRecursion LawfulWork workers → HasHistory plan workers report → AreLawfulCalls report.log
calls_lawful plan workers report scopes lawful history =
    let n : ℕ = length workers in
    let legal = history.legal in
    let any = of_any n report.log (each_seat plan.rules n report.log 1 workers lawful history.follows) in
    let behind = parted (OfAny n) (openings 0 plan.scopes) legal.rest
    (subst (λ (l : List Entry). AllByRecursion (OfAny n) l) legal.begins any) in
    subst AreLawfulCalls (sym legal.begins)
    (joined (λ (e : Entry). IsLawfulCall e.call) (openings 0 plan.scopes) legal.rest
    (openings_lawful 0 plan.scopes scopes)
    (rest_lawful n legal.rest legal.seats behind.1))
