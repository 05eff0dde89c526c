-- What all workers' verdicts tell stands in the log, each time for one entry.
use Rattle.std.proofs.Common.{◌≡◌, ◌==◌, ◌&&◌, ◌+◌, ◌≤◌, nat_le, ℕ, zero, suc, cond, Bool, true, false, Option, None, Some, List, [], ◌∷◌, ◌++◌, slice_get, refl, ap, sym, ◌∙◌, subst, arith, inl, inr, ◌⊎◌}
use Rattle.std.specs.Prelude.{count_by, option_map}
use Rattle.std.specs.Option.{option_map_or}
use Rattle.std.specs.List.{AllByRecursion, flat_map}
use Rattle.std.proofs.lemmas.Bool.{le-leb, lt-leb, leb-true}
use Rattle.std.proofs.lemmas.Bool.Decides.{eqb_tells}
use Rattle.std.proofs.lemmas.List.Sums.{sum_by-cons, sum_by-append}
use Rattle.stat_defs.specs.declared.events.Event.{Event}
use Rattle.stat_defs.specs.declared.events.Event.TheVariants as event
use Rattle.stat_defs.specs.declared.events.Key.{Key}
use Rattle.stat_defs.specs.declared.history.Call.{Call}
use Rattle.stat_defs.specs.declared.history.Call.TheVariants as call
use Rattle.stat_defs.specs.declared.history.Reply.{Reply}
use Rattle.stat_defs.specs.declared.history.Reply.TheVariants as reply
use Rattle.stat_defs.specs.declared.history.Entry.{Entry}
use Rattle.stat_defs.specs.declared.history.Verdict.{Verdict}
use Rattle.stat_defs.specs.declared.history.Verdict.TheVariants as verdict
use Rattle.stat_defs.specs.Keys.{Held, held_under, same_key}
use Rattle.book_state.specs.State.{NameRules, Seat, State, held_in}
use Rattle.book_state.specs.Finding.{scope_of}
use Rattle.book_state.specs.Step.{effect, on_seat, on_metric, hold, acknowledged, ended, is_live, found as found_row, made as made_row}
use Rattle.book_state.specs.Log.{empty}
use Rattle.book_state.specs.Follows.{Own, own, verdict_of, held_verdict, MakesOne, Finds, Makes, MakesAcked, Applied, IsChain, verdicts_of, entries_of, state_after, after_all, AreOfEvents, Follows}
use Rattle.book_state.proofs.Lists.{some_same, not_some, true_false}
use Rattle.ledger.specs.Lists.{EachNumbered}
use Rattle.ledger.specs.Work.{Work, verdicts_in, events_in}
use Rattle.ledger.proofs.Members.{all_parts, all_pushed, all_changed, all_filtered}

-- a verdict that a seat may hold
abbrev pub may_hold : Verdict → Type 0
may_hold (verdict.Accepted id) = Unit {0}
may_hold verdict.Rejected = Unit {0}
may_hold _ = ⊥

abbrev PlainSeat : Seat → Type 0
PlainSeat seat = AllByRecursion (λ (h : Held). may_hold h.verdict) seat.held

-- seats hold no other verdict
abbrev pub Plain : State → Type 0
Plain s = AllByRecursion PlainSeat s.seats

on_seat_plain : (f : Seat → Seat) (by : ℕ) (s : State) → ((row : Seat) → PlainSeat row → PlainSeat (f row)) → Plain s → Plain (on_seat f by s)
on_seat_plain f zero s keeps plain = plain
on_seat_plain f (suc at) s keeps plain = all_changed PlainSeat f at s.seats keeps plain

held_plain : (key : Key) (scope : ℕ) (v : Verdict) (row : Seat) → may_hold v → PlainSeat row → PlainSeat (hold key scope v row)
held_plain key scope v row may plain = all_pushed (λ (h : Held). may_hold h.verdict) row.held (record { key = key; scope = scope; verdict = v }) plain may

module _ (rules : NameRules) where
  pub step_plain : (by : ℕ) (c : Call) (r : Reply) (s : State) → Plain s → Plain (effect rules by c r s)
  step_plain by (call.OpenScope label prefix) (reply.Opened id) s plain = plain
  step_plain by (call.Release label) (reply.Released id) s plain = plain
  step_plain by (call.Find key) (reply.Made id numbers) s plain =
      on_seat_plain (hold key (scope_of s key) (verdict.Accepted id)) by (record s { metrics = s.metrics ++ made_row rules s key numbers ∷ [] })
      (λ row was. held_plain key (scope_of s key) (verdict.Accepted id) row tt was) plain
  step_plain by (call.Find key) (reply.Found id) s plain =
      on_seat_plain (hold key (scope_of s key) (verdict.Accepted id)) by (on_metric (found_row (scope_of s key) key.mode) id.0 s)
      (λ row was. held_plain key (scope_of s key) (verdict.Accepted id) row tt was) plain
  step_plain by (call.Find key) reply.Rejected s plain =
      on_seat_plain (hold key (scope_of s key) verdict.Rejected) by s (λ row was. held_plain key (scope_of s key) verdict.Rejected row tt was) plain
  step_plain by (call.SetText id text) reply.TextSet s plain = plain
  step_plain by call.Ack (reply.Acked tag) s plain =
      on_seat_plain (acknowledged s.scopes tag) by s (λ row was. all_filtered (λ (h : Held). may_hold h.verdict) (λ (h : Held). is_live s.scopes h.scope) row.held was) plain
  step_plain by call.Sweep (reply.Swept n) s plain = plain
  step_plain by call.End reply.Ended s plain = on_seat_plain ended by s (λ row was. tt) plain
  step_plain by _ _ s plain = plain

  pub own_plain : (seat : ℕ) (s : State) (log : List Entry) → Plain s → AllByRecursion (λ o. Plain o.after) (own rules seat s log)
  own_plain seat s [] plain = tt
  own_plain seat s (e ∷ log) plain =
      let next = step_plain e.seat e.call e.reply s plain in
      by_case (e.seat == seat) next (own_plain seat (effect rules e.seat e.call e.reply s) log next) where
        by_case : (t : Bool) → Plain (effect rules e.seat e.call e.reply s) → AllByRecursion (λ o. Plain o.after) (own rules seat (effect rules e.seat e.call e.reply s) log)
            → AllByRecursion (λ o. Plain o.after) (cond t (record { call = e.call; reply = e.reply; after = effect rules e.seat e.call e.reply s } ∷ own rules seat (effect rules e.seat e.call e.reply s) log)
            (own rules seat (effect rules e.seat e.call e.reply s) log))
        by_case true next rest = (next, rest)
        by_case false next rest = rest

pub empty_plain : (workers : ℕ) → Plain (empty workers)
empty_plain zero = tt
empty_plain (suc n) = (tt, empty_plain n)

-- a verdict that is held may be held
held_may : (s : State) (seat : ℕ) (key : Key) (v : Verdict) → Plain s → held_verdict s seat key ≡ Some v → may_hold v
held_may s seat key v plain held = of_list (held_in s seat) (of_seat seat) held where
  at_place : (at : ℕ) (seats : List Seat) → AllByRecursion PlainSeat seats → AllByRecursion (λ (h : Held). may_hold h.verdict) (option_map_or (λ (row : Seat). row.held) (slice_get seats at) [])
  at_place at [] all = tt
  at_place zero (row ∷ seats) all = all.0
  at_place (suc at) (row ∷ seats) all = at_place at seats all.1

  of_seat : (n : ℕ) → AllByRecursion (λ (h : Held). may_hold h.verdict) (held_in s n)
  of_seat zero = tt
  of_seat (suc at) = at_place at s.seats plain

  first : (t : Bool) (h : Held) (o : Option Held) → may_hold h.verdict → (option_map (λ (x : Held). x.verdict) o ≡ Some v → may_hold v) → option_map (λ (x : Held). x.verdict) (cond t (Some h) o) ≡ Some v → may_hold v
  first true h o may rest e = subst may_hold (some_same h.verdict v e) may
  first false h o may rest e = rest e

  of_list : (hs : List Held) → AllByRecursion (λ (h : Held). may_hold h.verdict) hs → option_map (λ (h : Held). h.verdict) (held_under key hs) ≡ Some v → may_hold v
  of_list [] all e = absurd (not_some v e)
  of_list (h ∷ hs) all e = first (same_key h.key key) h (held_under key hs) all.0 (of_list hs all.1) e

-- a test that no verdict passes which a seat may hold
module _ (test : Verdict → Bool) (none_held : (v : Verdict) → may_hold v → test v ≡ false) where
  -- the reply tells a verdict that passes
  abbrev pub tells : Reply → Bool
  tells r = option_map_or test (verdict_of r) false

  abbrev told : List Own → ℕ
  told made = count_by (λ (o : Own). tells o.reply) made

  abbrev one : Verdict → ℕ
  one v = cond (test v) 1 0

  own_tells : (o : Own) (rest : List Own) (v : Verdict) → verdict_of o.reply ≡ Some v → one v ≤ told (o ∷ rest)
  own_tells o rest v is =
      let same : ◌≡◌ {A = ℕ} (cond (tells o.reply) 1 0) (one v) = ap (λ (x : Option Verdict). cond (option_map_or test x false) 1 0) is in
      let whole = sum_by-cons (λ (x : Own). cond (tells x.reply) 1 0) o rest in
      omega (arith, same, whole)

  nothing : (v : Verdict) (made : List Own) → may_hold v → one v ≤ told made
  nothing v made may = let none : ◌≡◌ {A = ℕ} (one v) 0 = ap (λ (t : Bool). cond t 1 0) (none_held v may) in omega (arith, none)

  finds : (key : Key) (e : Event) (v : Verdict) (held : Option Verdict) (made : List Own) → ((h : Verdict) → held ≡ Some h → may_hold h) → Finds key e v held made → one v ≤ told made
  finds key e v (Some h) made may is = nothing v made (subst may_hold (sym is.0) (may h refl))
  finds key e v None (o ∷ made) may is = own_tells o made v is.1
  finds key e v None [] may is = absurd is

  makes_one : (c : Call) (v : Verdict) (made : List Own) → MakesOne c v made → one v ≤ told made
  makes_one c v [] is = absurd is
  makes_one c v (o ∷ []) is = own_tells o [] v is.1
  makes_one c v (o ∷ (p ∷ made)) is = absurd is

  makes : (seat : ℕ) (s : State) (e : Event) (v : Verdict) (made : List Own) → Plain s → Makes seat s e v made → one v ≤ told made
  makes seat s (event.OpenScope label prefix) v made plain is = makes_one (call.OpenScope label prefix) v made is
  makes seat s (event.Release label) v made plain is = makes_one (call.Release label) v made is
  makes seat s (event.Inc label name n) v made plain is = finds _ (event.Inc label name n) v _ made (λ h e. held_may s seat _ h plain e) is
  makes seat s (event.Gauge label name mode how n) v made plain is = finds _ (event.Gauge label name mode how n) v _ made (λ h e. held_may s seat _ h plain e) is
  makes seat s (event.Rec label name n) v made plain is = finds _ (event.Rec label name n) v _ made (λ h e. held_may s seat _ h plain e) is
  makes seat s (event.SetText label name text) v made plain is = finds _ (event.SetText label name text) v _ made (λ h e. held_may s seat _ h plain e) is

  makes_acked : (seat : ℕ) (s : State) (e : Event) (v : Verdict) (made : List Own) → Plain s → AllByRecursion (λ o. Plain o.after) made → MakesAcked seat s e v made → one v ≤ told made
  makes_acked seat s e v made plain all (inl is) = makes seat s e v made plain is.1
  makes_acked seat s e v made plain all (inr is) =
      let o : Own = is.0 in
      let rest : List Own = is.1 in
      let later = subst (λ (l : List Own). AllByRecursion (λ (x : Own). Plain x.after) l) is.2 all in
      let least = makes seat o.after e v rest later.0 is.4 in
      let whole = sum_by-cons (λ (x : Own). cond (tells x.reply) 1 0) o rest in
      let same = ap told is.2 in
      omega (arith, least, whole, same)

  after_plain : (s : State) (made : List Own) → Plain s → AllByRecursion (λ o. Plain o.after) made → Plain (after_all s made)
  after_plain s [] plain all = plain
  after_plain s (o ∷ made) plain all = after_plain o.after made all.0 all.1

  state_plain : (s : State) (applied : List Applied) → Plain s → AllByRecursion (λ o. Plain o.after) (entries_of applied) → Plain (state_after s applied)
  state_plain s [] plain all = plain
  state_plain s (a ∷ before) plain all =
      let parts = all_parts (λ (o : Own). Plain o.after) (entries_of before) a.made all in
      after_plain (state_after s before) a.made (state_plain s before plain parts.0) parts.1

  chain_tells : (seat : ℕ) (s : State) (applied : List Applied) → Plain s → AllByRecursion (λ o. Plain o.after) (entries_of applied) → IsChain seat s applied
      → count_by test (verdicts_of applied) ≤ told (entries_of applied)
  chain_tells seat s [] plain all chain = omega arith
  chain_tells seat s (a ∷ before) plain all chain =
      let parts = all_parts (λ (o : Own). Plain o.after) (entries_of before) a.made all in
      let rest = chain_tells seat s before plain parts.0 chain.0 in
      let here = makes_acked seat (state_after s before) a.event a.verdict a.made (state_plain s before plain parts.0) parts.1 chain.1 in
      let verdicts = sum_by-append (λ (v : Verdict). cond (test v) 1 0) (verdicts_of before) (a.verdict ∷ []) in
      let last = sum_by-cons (λ (v : Verdict). cond (test v) 1 0) a.verdict [] in
      let entries = sum_by-append (λ (o : Own). cond (tells o.reply) 1 0) (entries_of before) a.made in
      omega (arith, rest, here, verdicts, last, entries)

  -- the entries of a seat in a log that tell such a verdict
  abbrev pub told_by : ℕ → List Entry → ℕ
  told_by seat log = count_by (λ (e : Entry). (e.seat == seat) && tells e.reply) log

  own_told : (rules : NameRules) (seat : ℕ) (s : State) (log : List Entry) → told (own rules seat s log) ≡ told_by seat log
  own_told rules seat s [] = refl
  own_told rules seat s (e ∷ log) =
      let next : State = effect rules e.seat e.call e.reply s in
      let whole = sum_by-cons (λ (x : Entry). cond ((x.seat == seat) && tells x.reply) 1 0) e log in
      by_case (e.seat == seat) (own_told rules seat next log) ∙ sym whole where
        by_case : (t : Bool) → told (own rules seat (effect rules e.seat e.call e.reply s) log) ≡ told_by seat log
            → told (cond t (record { call = e.call; reply = e.reply; after = effect rules e.seat e.call e.reply s } ∷ own rules seat (effect rules e.seat e.call e.reply s) log) (own rules seat (effect rules e.seat e.call e.reply s) log))
            ≡ cond (t && tells e.reply) 1 0 + told_by seat log
        by_case true rest =
            let first = sum_by-cons (λ (x : Own). cond (tells x.reply) 1 0) (record { call = e.call; reply = e.reply; after = effect rules e.seat e.call e.reply s }) (own rules seat (effect rules e.seat e.call e.reply s) log) in
            omega (arith, rest, first)
        by_case false rest = omega (arith, rest)

  pub seat_tells : (rules : NameRules) (workers seat : ℕ) (events : List Event) (verdicts : List Verdict) (log : List Entry) → Follows rules workers seat events verdicts log
      → count_by test verdicts ≤ told_by seat log
  seat_tells rules workers seat events verdicts log follows =
      let of : AreOfEvents workers seat events verdicts follows.entries = follows.of_events in
      let entries : own rules seat (empty workers) log ≡ entries_of of.applied ++ follows.last ∷ [] = follows.own_are ∙ ap (λ (l : List Own). l ++ follows.last ∷ []) of.entries_are in
      let plain = subst (λ (l : List Own). AllByRecursion (λ (o : Own). Plain o.after) l) entries (own_plain rules seat (empty workers) log (empty_plain workers)) in
      let parts = all_parts (λ (o : Own). Plain o.after) (entries_of of.applied) (follows.last ∷ []) plain in
      let chain = chain_tells seat (empty workers) of.applied (empty_plain workers) parts.0 of.chain in
      let split = sum_by-append (λ (o : Own). cond (tells o.reply) 1 0) (entries_of of.applied) (follows.last ∷ []) in
      let same = ap told entries in
      let here = own_told rules seat (empty workers) log in
      let verdicts_are = ap (λ (l : List Verdict). count_by test l) of.verdicts_are in
      omega (arith, chain, split, same, here, verdicts_are)

  -- the entries of the seats from n on
  abbrev told_from : ℕ → List Entry → ℕ
  told_from n log = count_by (λ (e : Entry). nat_le n e.seat && tells e.reply) log

  one_seat : (n seat : ℕ) (t : Bool) → cond ((seat == n) && t) 1 0 + cond (nat_le (suc n) seat && t) 1 0 ≤ cond (nat_le n seat && t) 1 0
  one_seat n seat t = elim (eqb_tells seat n) [
    | inl is ↦
        let same = is.1 in
        let beyond : nat_le (suc n) seat ≡ false = lt-leb (suc n) seat (omega (arith, same)) in
        let within : nat_le n seat ≡ true = le-leb n seat (omega (arith, same)) in
        by_value t (seat == n) (nat_le (suc n) seat) (nat_le n seat) (inl (beyond, within))
    | inr is ↦ by_value t (seat == n) (nat_le (suc n) seat) (nat_le n seat) (inr (is.0, λ up. le-leb n seat (let low = leb-true (suc n) seat up in omega (arith, low))))
  ] where
    by_value : (t a b c : Bool) → ((b ≡ false) × (c ≡ true)) ⊎ ((a ≡ false) × (b ≡ true → c ≡ true)) → cond (a && t) 1 0 + cond (b && t) 1 0 ≤ cond (c && t) 1 0
    by_value true true true c (inl is) = absurd (true_false is.0)
    by_value true true true c (inr is) = absurd (true_false is.0)
    by_value true true false true is = omega arith
    by_value true true false false (inl is) = absurd (true_false (sym is.1))
    by_value true true false false (inr is) = absurd (true_false is.0)
    by_value true false true true is = omega arith
    by_value true false true false (inl is) = absurd (true_false is.0)
    by_value true false true false (inr is) = absurd (true_false (sym (is.1 refl)))
    by_value true false false true is = omega arith
    by_value true false false false is = omega arith
    by_value false true true true is = omega arith
    by_value false true true false is = omega arith
    by_value false true false true is = omega arith
    by_value false true false false is = omega arith
    by_value false false true true is = omega arith
    by_value false false true false is = omega arith
    by_value false false false true is = omega arith
    by_value false false false false is = omega arith

  seats_apart : (n : ℕ) (log : List Entry) → told_by n log + told_from (suc n) log ≤ told_from n log
  seats_apart n [] = omega arith
  seats_apart n (e ∷ log) =
      let rest = seats_apart n log in
      let here = one_seat n e.seat (tells e.reply) in
      let by = sum_by-cons (λ (x : Entry). cond ((x.seat == n) && tells x.reply) 1 0) e log in
      let beyond = sum_by-cons (λ (x : Entry). cond (nat_le (suc n) x.seat && tells x.reply) 1 0) e log in
      let from = sum_by-cons (λ (x : Entry). cond (nat_le n x.seat && tells x.reply) 1 0) e log in
      omega (arith, rest, here, by, beyond, from)

  all_seats : (rules : NameRules) (workers : ℕ) (log : List Entry) (n : ℕ) (works : List Work) → EachNumbered (λ w work. Follows rules workers w (events_in work) (verdicts_in work) log) n works
      → count_by test (flat_map verdicts_in works) ≤ told_from n log
  all_seats rules workers log n [] each = omega arith
  all_seats rules workers log n (work ∷ works) each =
      let own = seat_tells rules workers n (events_in work) (verdicts_in work) log each.0 in
      let rest = all_seats rules workers log (suc n) works each.1 in
      let apart = seats_apart n log in
      let split = sum_by-append (λ (v : Verdict). cond (test v) 1 0) (verdicts_in work) (flat_map verdicts_in works) in
      omega (arith, own, rest, apart, split)

  abbrev pub told_in : List Entry → ℕ
  told_in log = count_by (λ (e : Entry). tells e.reply) log

  some_seat : (n : ℕ) (log : List Entry) → told_from n log ≤ told_in log
  some_seat n [] = omega arith
  some_seat n (e ∷ log) =
      let rest = some_seat n log in
      let from = sum_by-cons (λ (x : Entry). cond (nat_le n x.seat && tells x.reply) 1 0) e log in
      let whole = sum_by-cons (λ (x : Entry). cond (tells x.reply) 1 0) e log in
      let here = by_value (nat_le n e.seat) (tells e.reply) in
      omega (arith, rest, from, whole, here) where
        by_value : (a t : Bool) → cond (a && t) 1 0 ≤ cond t 1 0
        by_value true true = omega arith
        by_value true false = omega arith
        by_value false true = omega arith
        by_value false false = omega arith

  -- the verdicts of all workers that pass are no more than the entries that tell them
  pub verdicts_told : (rules : NameRules) (workers : ℕ) (log : List Entry) (n : ℕ) (works : List Work) → EachNumbered (λ w work. Follows rules workers w (events_in work) (verdicts_in work) log) n works
      → count_by test (flat_map verdicts_in works) ≤ told_in log
  verdicts_told rules workers log n works each =
      let one = all_seats rules workers log n works each in
      let two = some_seat n log in
      omega (arith, one, two)
