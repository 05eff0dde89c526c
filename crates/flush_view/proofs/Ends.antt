-- Each worker of a ledger has one end in the log.
use Rattle.std.proofs.Common.{◌≡◌, ℕ, suc, ◌+◌, ◌<◌, ◌≤◌, ◌==◌, ◌&&◌, cond, nat_le, Bool, true, false, Option, Some, None, List, [], ◌∷◌, ◌++◌, length, refl, ap, sym, ◌∙◌, subst, arith, inl, inr}
use Rattle.std.specs.Prelude.{sum_by}
use Rattle.std.specs.List.{list_all}
use Rattle.std.proofs.lemmas.Bool.Decides.{leb_tells}
use Rattle.std.proofs.lemmas.List.Sums.{sum_by-cons, sum_by-append}
use Rattle.stat_defs.specs.declared.configs.ScopeSpec.{ScopeSpec}
use Rattle.stat_defs.specs.declared.events.Event.{Event}
use Rattle.stat_defs.specs.declared.events.Event.TheVariants as event
use Rattle.stat_defs.specs.declared.events.Key.{Key}
use Rattle.stat_defs.specs.declared.history.Call.{Call}
use Rattle.stat_defs.specs.declared.history.Call.TheVariants as call
use Rattle.stat_defs.specs.declared.history.Entry.{Entry}
use Rattle.stat_defs.specs.declared.history.Verdict.{Verdict}
use Rattle.stat_defs.specs.declared.history.Verdict.TheVariants as verdict
use Rattle.stat_defs.specs.declared.reports.Report.{Report}
use Rattle.book_state.specs.State.{NameRules, State}
use Rattle.book_state.specs.Step.{effect}
use Rattle.book_state.specs.Log.{empty, openings, is_sweep, fits_seat}
use Rattle.book_state.specs.SeatLaws.{is_end}
use Rattle.book_state.specs.Follows.{Own, own, Applied, MakesOne, SetsText, Finds, Makes, MakesAcked, IsChain, entries_of, state_after, Follows}
use Rattle.book_state.proofs.Lists.{both, true_false}
use Rattle.ledger.specs.Ledger.{RunPlan, HasHistory}
use Rattle.ledger.specs.Lists.{EachNumbered}
use Rattle.ledger.specs.Work.{Work, events_in, verdicts_in}
use Rattle.flush_view.specs.Views.{ends_in}
use Rattle.flush_view.proofs.Totals.{total_from, total_none, total_both, total_same, total_at}

abbrev one_if_end : Call → ℕ
one_if_end c = cond (is_end c) 1 0

abbrev end_of : Entry → ℕ
end_of e = one_if_end e.call

abbrev own_end : Own → ℕ
own_end o = one_if_end o.call

-- an end of this seat
abbrev end_by : ℕ → Entry → ℕ
end_by seat e = cond (e.seat == seat) (end_of e) 0

abbrev NoEnds : List Own → Type 0
NoEnds made = sum_by own_end made ≡ 0

no_end : (o : Own) (c : Call) (made : List Own) → o.call ≡ c → is_end c ≡ false → NoEnds made → NoEnds (o ∷ made)
no_end o c made is other rest =
    let head : own_end o ≡ 0 = ap one_if_end is ∙ ap (λ b. cond b 1 0) other in
    let whole = sum_by-cons own_end o made in
    omega (arith, head, rest, whole)

makes_none : (c : Call) (v : Verdict) (made : List Own) → is_end c ≡ false → MakesOne c v made → NoEnds made
makes_none c v [] other is = absurd is
makes_none c v (o ∷ []) other is = no_end o c [] is.0 other refl
makes_none c v (o ∷ (p ∷ made)) other is = absurd is

none_of : (made : List Own) → made ≡ [] → NoEnds made
none_of made is = ap (λ (l : List Own). sum_by own_end l) is

sets_none : (e : Event) (v : Verdict) (made : List Own) → SetsText e v made → NoEnds made
sets_none (event.SetText label name text) (verdict.Accepted id) [] is = absurd is
sets_none (event.SetText label name text) (verdict.Accepted id) (o ∷ []) is = no_end o (call.SetText id text) [] is refl refl
sets_none (event.SetText label name text) (verdict.Accepted id) (o ∷ (p ∷ made)) is = absurd is
sets_none _ _ made is = none_of made is

finds_none : (key : Key) (e : Event) (v : Verdict) (held : Option Verdict) (made : List Own) → Finds key e v held made → NoEnds made
finds_none key e v (Some held) made is = sets_none e v made is.1
finds_none key e v None [] is = absurd is
finds_none key e v None (o ∷ made) is = no_end o (call.Find key) made is.0 refl (sets_none e v made is.2)

event_none : (seat : ℕ) (s : State) (e : Event) (v : Verdict) (made : List Own) → Makes seat s e v made → NoEnds made
event_none seat s (event.OpenScope label prefix) v made is = makes_none (call.OpenScope label prefix) v made refl is
event_none seat s (event.Release label) v made is = makes_none (call.Release label) v made refl is
event_none seat s (event.Inc label name n) v made is = finds_none _ (event.Inc label name n) v _ made is
event_none seat s (event.Gauge label name mode op n) v made is = finds_none _ (event.Gauge label name mode op n) v _ made is
event_none seat s (event.Rec label name n) v made is = finds_none _ (event.Rec label name n) v _ made is
event_none seat s (event.SetText label name text) v made is = finds_none _ (event.SetText label name text) v _ made is

acked_none : (seat : ℕ) (s : State) (e : Event) (v : Verdict) (made : List Own) → MakesAcked seat s e v made → NoEnds made
acked_none seat s e v made (inl is) = event_none seat s e v made is.1
acked_none seat s e v made (inr is) =
    subst (λ (l : List Own). NoEnds l) (sym is.2) (no_end is.0 call.Ack is.1 is.3 refl (event_none seat is.0.after e v is.1 is.4))

-- no event makes an end
chain_none : (seat : ℕ) (s : State) (applied : List Applied) → IsChain seat s applied → NoEnds (entries_of applied)
chain_none seat s [] chain = refl
chain_none seat s (a ∷ before) chain =
    let rest = chain_none seat s before chain.0 in
    let last = acked_none seat (state_after s before) a.event a.verdict a.made chain.1 in
    let whole = sum_by-append own_end (entries_of before) a.made in
    omega (arith, rest, last, whole)

own_ends : (rules : NameRules) (seat : ℕ) (s : State) (log : List Entry) → sum_by own_end (own rules seat s log) ≡ sum_by (end_by seat) log
own_ends rules seat s [] = refl
own_ends rules seat s (entry ∷ log) =
    let next : State = effect rules entry.seat entry.call entry.reply s in
    by_case next (entry.seat == seat) refl (own_ends rules seat next log) where
      by_case : (next : State) (b : Bool) → (entry.seat == seat) ≡ b
          → sum_by own_end (own rules seat next log) ≡ sum_by (end_by seat) log
          → sum_by own_end (cond b (record { call = entry.call; reply = entry.reply; after = next } ∷ own rules seat next log) (own rules seat next log))
          ≡ sum_by (end_by seat) (entry ∷ log)
      by_case next true same rest =
          let o : Own = record { call = entry.call; reply = entry.reply; after = next } in
          let head : end_by seat entry ≡ end_of entry = ap (λ b. cond b (end_of entry) 0) same in
          let one = sum_by-cons own_end o (own rules seat next log) in
          let whole = sum_by-cons (end_by seat) entry log in
          omega (arith, head, one, whole, rest)
      by_case next false other rest =
          let head : end_by seat entry ≡ 0 = ap (λ b. cond b (end_of entry) 0) other in
          let whole = sum_by-cons (end_by seat) entry log in
          omega (arith, head, whole, rest)

one_end : (rules : NameRules) (workers seat : ℕ) (work : Work) (log : List Entry)
    → Follows rules workers seat (events_in work) (verdicts_in work) log → sum_by (end_by seat) log ≡ 1
one_end rules workers seat work log follows =
    let applied = follows.of_events.applied in
    let none : NoEnds follows.entries =
    ap (λ (l : List Own). sum_by own_end l) follows.of_events.entries_are ∙ chain_none seat (empty workers) applied follows.of_events.chain in
    let ends : own_end follows.last ≡ 1 = ap one_if_end follows.ends in
    let parts = sum_by-append own_end follows.entries (follows.last ∷ []) in
    let last = sum_by-cons own_end follows.last [] in
    let all : sum_by own_end (own rules seat (empty workers) log) ≡ sum_by own_end (follows.entries ++ follows.last ∷ []) =
    ap (λ (l : List Own). sum_by own_end l) follows.own_are in
    let whole = own_ends rules seat (empty workers) log in
    omega (arith, none, ends, parts, last, all, whole)

each_one : (rules : NameRules) (n : ℕ) (log : List Entry) (k : ℕ) (workers : List Work)
    → EachNumbered (λ seat work. Follows rules n seat (events_in work) (verdicts_in work) log) k workers
    → total_from (λ seat. sum_by (end_by seat) log) k (length workers) ≡ length workers
unfolding total_from
each_one rules n log k [] each = refl
each_one rules n log k (work ∷ workers) each =
    let first = one_end rules n k work log each.0 in
    let rest = each_one rules n log (suc k) workers each.1 in
    omega (arith, first, rest)

-- an end is a worker's
abbrev IsOfWorker : ℕ → Entry → Type 0
IsOfWorker n e = is_end e.call ≡ true → (1 ≤ e.seat) × (e.seat < 1 + n)

abbrev AreOfWorkers : ℕ → List Entry → Type 0
AreOfWorkers n [] = Unit {0}
AreOfWorkers n (e ∷ log) = IsOfWorker n e × AreOfWorkers n log

no_sweep : (c : Call) → is_end c ≡ true → is_sweep c ≡ false
no_sweep call.End ends = refl
no_sweep _ ends = absurd (true_false (sym ends))

pub within : (n seat : ℕ) → (nat_le 1 seat && nat_le seat n) ≡ true → (1 ≤ seat) × (seat < 1 + n)
within n seat fits =
    let parts = both (nat_le 1 seat) (nat_le seat n) fits in
    elim (leb_tells 1 seat) [
      | inl low ↦ elim (leb_tells seat n) [
        | inl high ↦ let a = low.1 in let b = high.1 in (omega (arith, a), omega (arith, b))
        | inr above ↦ absurd (true_false (sym parts.1 ∙ above.0))
      ]
      | inr below ↦ absurd (true_false (sym parts.0 ∙ below.0))
    ]

of_worker : (n : ℕ) (e : Entry) → fits_seat n e ≡ true → IsOfWorker n e
of_worker n e fits ends =
    within n e.seat (sym (ap (λ b. cond b (e.seat == 0) (nat_le 1 e.seat && nat_le e.seat n)) (no_sweep e.call ends)) ∙ fits)

of_workers : (n : ℕ) (log : List Entry) → list_all (fits_seat n) log ≡ true → AreOfWorkers n log
of_workers n [] fits = tt
of_workers n (e ∷ log) fits =
    let parts = both (fits_seat n e) (list_all (fits_seat n) log) fits in
    (of_worker n e parts.0, of_workers n log parts.1)

behind_openings : (n id : ℕ) (scopes : List ScopeSpec) (rest : List Entry) → AreOfWorkers n rest → AreOfWorkers n (openings id scopes ++ rest)
behind_openings n id [] rest are = are
behind_openings n id (scope ∷ scopes) rest are = ((λ ends. absurd (true_false (sym ends))), behind_openings n (suc id) scopes rest are)

-- an end is one of its seat alone
by_seats : (n : ℕ) (e : Entry) → IsOfWorker n e → total_from (λ seat. end_by seat e) 1 n ≡ end_of e
by_seats n e is = by_case (is_end e.call) refl where
  nothing : (seat : ℕ) → is_end e.call ≡ false → end_by seat e ≡ 0
  nothing seat other = ap (λ b. cond (e.seat == seat) (cond b 1 0) 0) other ∙ zero_both (e.seat == seat) where
    zero_both : (b : Bool) → ◌≡◌ {A = ℕ} (cond b 0 0) 0
    zero_both true = refl
    zero_both false = refl

  by_case : (b : Bool) → is_end e.call ≡ b → total_from (λ seat. end_by seat e) 1 n ≡ end_of e
  by_case true ends = let inside = is ends in total_at e.seat (end_of e) 1 n inside.0 inside.1
  by_case false other =
      total_same (λ seat. end_by seat e) (λ seat. 0) 1 n (λ seat. nothing seat other) ∙ total_none 1 n ∙ sym (ap (λ b. cond b 1 0) other)

all_ends : (n : ℕ) (log : List Entry) → AreOfWorkers n log → total_from (λ seat. sum_by (end_by seat) log) 1 n ≡ sum_by end_of log
all_ends n [] are = total_none 1 n
all_ends n (e ∷ log) are =
    let head = by_seats n e are.0 in
    let rest = all_ends n log are.1 in
    let split = total_same (λ seat. sum_by (end_by seat) (e ∷ log)) (λ seat. end_by seat e + sum_by (end_by seat) log) 1 n (λ seat. sum_by-cons (end_by seat) e log) in
    let parts = total_both (λ seat. end_by seat e) (λ seat. sum_by (end_by seat) log) 1 n in
    let whole = sum_by-cons end_of e log in
    omega (arith, head, rest, split, parts, whole)

pub ends_of_workers : (plan : RunPlan) (workers : List Work) (report : Report) → HasHistory plan workers report → ends_in report.log ≡ length workers
ends_of_workers plan workers report history =
    let n : ℕ = length workers in
    let legal = history.legal in
    let are : AreOfWorkers n report.log =
    subst (λ (l : List Entry). AreOfWorkers n l) (sym legal.begins) (behind_openings n 0 plan.scopes legal.rest (of_workers n legal.rest legal.seats)) in
    let ends = all_ends n report.log are in
    let each = each_one plan.rules n report.log 1 workers history.follows in
    omega (arith, ends, each)
