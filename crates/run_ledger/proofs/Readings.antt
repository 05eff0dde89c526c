-- The readings of the admin reader: none is above the units, and none falls.
use Rattle.std.proofs.Common.{◌≡◌, ◌==◌, ◌+◌, ◌<◌, ◌≤◌, ℕ, zero, suc, cond, Bool, true, false, List, [], ◌∷◌, ◌++◌, map, reverse, length, take, refl, ap, sym, ◌∙◌, subst, arith, inl, inr}
use Rattle.std.specs.Prelude.{filter, AllPairs}
use Rattle.std.specs.List.{AllByRecursion}
use Rattle.std.proofs.lemmas.Bool.Decides.{eqb_tells}
use Rattle.std.proofs.lemmas.List.{reverse-append, length-append, length-map}
use Rattle.std.proofs.lemmas.List.Elements.{All-from_recursion}
use Rattle.std.proofs.lemmas.List.Kept.{AllPairs-cons}
use Rattle.stat_defs.specs.declared.history.Call.{Call}
use Rattle.stat_defs.specs.declared.history.Call.TheVariants as call
use Rattle.stat_defs.specs.declared.history.Reply.{Reply}
use Rattle.stat_defs.specs.declared.history.Reply.TheVariants as reply
use Rattle.stat_defs.specs.declared.history.Entry.{Entry}
use Rattle.stat_defs.specs.declared.history.Verdict.TheVariants as verdict
use Rattle.stat_defs.specs.declared.ids.Kind.TheVariants.{Counter, Gauge}
use Rattle.stat_defs.specs.declared.ids.MetricId.{MetricId}
use Rattle.stat_defs.specs.declared.reports.Reading.{Reading}
use Rattle.metric_words.specs.declared.counter_view.CountKind.{CountKind}
use Rattle.metric_words.specs.declared.counter_view.CountKind.TheVariants.{First, Second, Latch, Load}
use Rattle.metric_words.specs.declared.counter_view.CountStep.{CountStep}
use Rattle.metric_words.specs.Counters.{choose, as_load, seen_by, Rises}
use Rattle.metric_words.specs.CounterLaws.{as_loaded, loads_of}
use Rattle.book_state.specs.State.{NameRules, Row, Seat, State, metrics_of}
use Rattle.book_state.specs.Finding.{scope_of}
use Rattle.book_state.specs.Step.{effect, on_seat, on_metric, hold, acknowledged, ended, released, swept, found as found_row, made as made_row}
use Rattle.book_state.specs.Log.{empty, replay_from, replay}
use Rattle.book_state.proofs.Growing.{replayed_on}
use Rattle.book_state.proofs.Lists.{length-change_at}
use Rattle.ledger.specs.Flushes.{ids_not_gone, id_of_reading}
use Rattle.ledger.specs.Readings.{ReadingFits, NoneFalls}
use Rattle.ledger.specs.Work.{Work, units_of}
use Rattle.ledger.proofs.Names.{kinds}
use Rattle.ledger.proofs.Lists.{number_same}
use Rattle.run_ledger.specs.Told.{ReadTold, words_on, words_read, words_loaded}
use Rattle.run_ledger.specs.Accounts.{ReadAccounts}
use Rattle.ledger.proofs.Members.{all_under, all_parts, all_pushed, all_as, all_any, all_both, all_mapped}
use Rattle.run_ledger.proofs.Metrics.{ids_between}
use Rattle.run_ledger.proofs.Flushes.{listed_before}

-- none is less than an earlier one
abbrev pub Climbs : List ℕ → Type 0
Climbs [] = Unit {0}
Climbs (x ∷ xs) = AllByRecursion (λ y. x ≤ y) xs × Climbs xs

abbrev pub UpTo : ℕ → List ℕ → Type 0
UpTo top xs = AllByRecursion (λ y. y ≤ top) xs

climbs_on : (xs : List ℕ) (x : ℕ) → Climbs xs → UpTo x xs → Climbs (xs ++ x ∷ [])
climbs_on [] x climbs below = (tt, tt)
climbs_on (y ∷ xs) x climbs below = (all_pushed (λ z. y ≤ z) xs x climbs.0 below.0, climbs_on xs x climbs.1 below.1)

climbs_behind : (xs ys : List ℕ) → Climbs (xs ++ ys) → Climbs ys
climbs_behind [] ys climbs = climbs
climbs_behind (x ∷ xs) ys climbs = climbs_behind xs ys climbs.1

-- what the loads of a counter found, in order
one_load : (kind : CountKind) (here : Bool) (found top : ℕ) (earlier : List ℕ) → as_load kind (choose here found top) top ≤ top
    → Climbs (reverse earlier) × UpTo (as_load kind (choose here found top) top) (reverse earlier)
    → Climbs (reverse (as_loaded kind here found earlier)) × UpTo top (reverse (as_loaded kind here found earlier))
one_load First here found top earlier below is = is
one_load Second here found top earlier below is = is
one_load Latch here found top earlier below is = is
one_load Load false found top earlier below is = is
one_load Load true found top earlier below is =
    let same : reverse (found ∷ earlier) ≡ reverse earlier ++ found ∷ [] = reverse-append (found ∷ []) earlier in
    subst (λ (l : List ℕ). Climbs l × UpTo top l) (sym same) (
      climbs_on (reverse earlier) found is.0 is.1,
      all_pushed (λ y. y ≤ top) (reverse earlier) found (all_as (λ y. y ≤ found) (λ y. y ≤ top) (reverse earlier) (λ y le. omega (arith, le, below)) is.1) below,
    )

pub loads_climb : (id top : ℕ) (steps : List CountStep) → Rises id steps top → Climbs (words_loaded id steps) × UpTo top (words_loaded id steps)
loads_climb id top [] rises = (tt, tt)
loads_climb id top (s ∷ ss) rises = one_load s.kind (s.id == id) s.found top (loads_of id ss) rises.0 (loads_climb id (seen_by id s top) ss rises.1)

-- what holds of all words of a counter holds of each reading of it
module _ (top : ℕ) where
  abbrev pub IsBelow : ReadTold → Type 0
  IsBelow read = AllByRecursion (λ x. x.id.0 < top) read.shown.counters

  module _ (P : ℕ → ℕ → Type 0) where
    of_each : (xs : List Reading) → ((id : ℕ) → id < top → AllByRecursion (P id) (words_on id xs)) → AllByRecursion (λ x. x.id.0 < top) xs → AllByRecursion (λ x. P x.id.0 x.word) xs
    of_each [] of below = tt
    of_each (x ∷ xs) of below = (
      first (number_same x.id.0 x.id.0 refl) (of x.id.0 below.0),
      of_each xs (λ id low. later id (x.id.0 == id) (of id low)) below.1,
    ) where
      first : (x.id.0 == x.id.0) ≡ true → AllByRecursion (P x.id.0) (words_on x.id.0 (x ∷ xs)) → P x.id.0 x.word
      first same all =
          let here = subst (λ (t : Bool). AllByRecursion (P x.id.0) (map (λ (r : Reading). r.word) (cond t (x ∷ filter (λ r. r.id.0 == x.id.0) xs) (filter (λ r. r.id.0 == x.id.0) xs)))) same all in here.0

      later : (id : ℕ) (t : Bool) → AllByRecursion (P id) (map (λ (r : Reading). r.word) (cond t (x ∷ filter (λ r. r.id.0 == id) xs) (filter (λ r. r.id.0 == id) xs))) → AllByRecursion (P id) (words_on id xs)
      later id true all = all.1
      later id false all = all

    of_all : (reads : List ReadTold) → ((id : ℕ) → id < top → AllByRecursion (P id) (words_read id reads)) → AllByRecursion IsBelow reads
        → AllByRecursion (λ read. AllByRecursion (λ x. P x.id.0 x.word) read.shown.counters) reads
    of_all [] of below = tt
    of_all (read ∷ reads) of below = (
      of_each read.shown.counters (λ id low. (all_parts (P id) (words_on id read.shown.counters) (words_read id reads) (of id low)).0) below.0,
      of_all reads (λ id low. (all_parts (P id) (words_on id read.shown.counters) (words_read id reads) (of id low)).1) below.1,
    )

-- a later word is above all earlier ones
climbs_over : (xs ys : List ℕ) → Climbs (xs ++ ys) → AllByRecursion (λ y. UpTo y xs) ys
climbs_over [] ys climbs = all_any (λ y. UpTo y []) ys (λ y. tt)
climbs_over (x ∷ xs) ys climbs = all_both (λ y. x ≤ y) (λ y. UpTo y xs) ys (all_parts (λ y. x ≤ y) xs ys climbs.0).1 (climbs_over xs ys climbs.1)

-- the readings of a counter are no more than this
abbrev HasUpTo : ReadTold → ℕ → ℕ → Type 0
HasUpTo earlier id word = AllByRecursion (λ before. before.id.0 ≡ id → before.word ≤ word) earlier.shown.counters

up_to_each : (id word : ℕ) (xs : List Reading) → UpTo word (words_on id xs) → AllByRecursion (λ x. x.id.0 ≡ id → x.word ≤ word) xs
up_to_each id word [] low = tt
up_to_each id word (x ∷ xs) low = elim (eqb_tells x.id.0 id) [
  | inl is ↦
      let here : UpTo word (x.word ∷ words_on id xs) = subst (λ (t : Bool). UpTo word (map (λ (r : Reading). r.word) (cond t (x ∷ filter (λ r. r.id.0 == id) xs) (filter (λ r. r.id.0 == id) xs)))) is.0 low in
      ((λ same. here.0), up_to_each id word xs here.1)
  | inr is ↦
      let rest : UpTo word (words_on id xs) = subst (λ (t : Bool). UpTo word (map (λ (r : Reading). r.word) (cond t (x ∷ filter (λ r. r.id.0 == id) xs) (filter (λ r. r.id.0 == id) xs)))) is.0 low in
      ((λ same. absurd (is.1 same)), up_to_each id word xs rest)
]

pub none_falls : (top : ℕ) (reads : List ReadTold) → AllByRecursion (IsBelow top) reads → ((id : ℕ) → id < top → Climbs (words_read id reads))
    → AllPairs NoneFalls (map (λ read. read.shown) reads)
none_falls top [] below climb = λ i j d low within. absurd (omega (arith, within))
none_falls top (read ∷ reads) below climb =
    AllPairs-cons NoneFalls read.shown (map (λ (r : ReadTold). r.shown) reads)
    (All-from_recursion (NoneFalls read.shown) (map (λ (r : ReadTold). r.shown) reads)
    (all_mapped (λ (r : ReadTold). r.shown) (NoneFalls read.shown) reads (of_all top (HasUpTo read) reads each below.1)))
    (none_falls top reads below.1 (λ id low. climbs_behind (words_on id read.shown.counters) (words_read id reads) (climb id low))) where
      each : (id : ℕ) → id < top → AllByRecursion (HasUpTo read id) (words_read id reads)
      each id low =
          all_as (λ y. UpTo y (words_on id read.shown.counters)) (HasUpTo read id) (words_read id reads) (λ y. up_to_each id y read.shown.counters)
          (climbs_over (words_on id read.shown.counters) (words_read id reads) (climb id low))

-- metrics are never taken back
by_seat : (f : Seat → Seat) (by : ℕ) (s t : State) → length s.metrics ≤ length t.metrics → length s.metrics ≤ length (on_seat f by t).metrics
by_seat f zero s t more = more
by_seat f (suc at) s t more = more

module _ (rules : NameRules) where
  step_grows : (by : ℕ) (c : Call) (r : Reply) (s : State) → length s.metrics ≤ length (effect rules by c r s).metrics
  step_grows by (call.OpenScope label prefix) (reply.Opened id) s = omega arith
  step_grows by (call.Release label) (reply.Released id) s = let same = length-map s.metrics (released id.0 (s.releases + 1)) in omega (arith, same)
  step_grows by (call.Find key) (reply.Made id numbers) s =
      let longer = length-append s.metrics (made_row rules s key numbers ∷ []) in
      by_seat (hold key (scope_of s key) (verdict.Accepted id)) by s (record s { metrics = s.metrics ++ made_row rules s key numbers ∷ [] }) (omega (arith, longer))
  step_grows by (call.Find key) (reply.Found id) s =
      let same = length-change_at (found_row (scope_of s key) key.mode) id.0 s.metrics in
      by_seat (hold key (scope_of s key) (verdict.Accepted id)) by s (on_metric (found_row (scope_of s key) key.mode) id.0 s) (omega (arith, same))
  step_grows by (call.Find key) reply.Rejected s = by_seat (hold key (scope_of s key) verdict.Rejected) by s s (omega arith)
  step_grows by (call.SetText id text) reply.TextSet s =
      let same = length-change_at (λ (row : Row). record row { metric = record row.metric { text = text } }) id.0 s.metrics in
      omega (arith, same)
  step_grows by call.Ack (reply.Acked tag) s = by_seat (acknowledged s.scopes tag) by s s (omega arith)
  step_grows by call.Sweep (reply.Swept n) s = let same = length-map s.metrics (swept s.seats) in omega (arith, same)
  step_grows by call.End reply.Ended s = by_seat ended by s s (omega arith)
  step_grows by _ _ s = omega arith

  run_grows : (s : State) (log : List Entry) → length s.metrics ≤ length (replay_from rules s log).metrics
  run_grows s [] = omega arith
  run_grows s (e ∷ log) =
      let one = step_grows e.seat e.call e.reply s in
      let rest = run_grows (effect rules e.seat e.call e.reply s) log in
      omega (arith, one, rest)

  pub found_few : (workers : ℕ) (found more log : List Entry) → log ≡ found ++ more → length (replay rules workers found).metrics ≤ length (replay rules workers log).metrics
  found_few workers found more log whole =
      let rest = run_grows (replay rules workers found) more in
      let same = ap (λ (s : State). length s.metrics) (ap (λ (l : List Entry). replay rules workers l) whole ∙ replayed_on rules (empty workers) found more) in
      omega (arith, rest, same)

-- each reading fits its log
module _ (rules : NameRules) (workers : ℕ) (log : List Entry) where
  abbrev pub made : ℕ
  made = length (replay rules workers log).metrics

  pub all_below : (reads : List ReadTold) → AllByRecursion (ReadAccounts rules workers log) reads → AllByRecursion (IsBelow made) reads
  all_below reads each = all_as (ReadAccounts rules workers log) (IsBelow made) reads one reads_each where
    reads_each : AllByRecursion (ReadAccounts rules workers log) reads
    reads_each = each

    one : (read : ReadTold) → ReadAccounts rules workers log read → IsBelow made read
    one read is =
        let s : State = replay rules workers read.found in
        let few = found_few rules workers read.found is.behind log is.whole in
        let long = length-map s.metrics (λ row. row.metric) in
        all_under id_of_reading (λ (i : MetricId). i.0 < made) read.shown.counters (ids_not_gone Counter s) (is.counters ∙ kinds Counter s)
        (ids_between _ (λ k. k < made) 0 (metrics_of s) (λ k low. omega (arith, low, few, long)))

  one_fits : (works : List Work) → length works ≡ workers → (read : ReadTold) → ReadAccounts rules workers log read
      → AllByRecursion (λ reading. reading.word ≤ units_of reading.id.0 works) read.shown.counters → ReadingFits rules log works read.shown
  one_fits works same read is low =
      let found : List Entry = read.found in
      let more : List Entry = is.behind in
      let whole : log ≡ found ++ more = is.whole in
      let at = is.at in
      let long : length log ≡ length found + length more = ap length whole ∙ length-append found more in record {
        within = omega (arith, at, long);
        counters = subst (λ (n : ℕ). map id_of_reading read.shown.counters ≡ ids_not_gone Counter (replay rules n (take read.shown.at log))) (sym same)
            (is.counters ∙ listed_before rules workers log Counter found more read.shown.at at whole);
        gauges = subst (λ (n : ℕ). map id_of_reading read.shown.gauges ≡ ids_not_gone Gauge (replay rules n (take read.shown.at log))) (sym same)
            (is.gauges ∙ listed_before rules workers log Gauge found more read.shown.at at whole);
        at_most = low;
      }

  pub all_fit : (works : List Work) (reads : List ReadTold) → length works ≡ workers → AllByRecursion (ReadAccounts rules workers log) reads
      → ((id : ℕ) → id < made → UpTo (units_of id works) (words_read id reads)) → AllByRecursion (ReadingFits rules log works) (map (λ read. read.shown) reads)
  all_fit works reads same each low =
      all_mapped (λ (r : ReadTold). r.shown) (ReadingFits rules log works) reads
      (all_as _ (λ (r : ReadTold). ReadingFits rules log works r.shown) reads (λ read is. one_fits works same read is.0 is.1)
      (all_both (ReadAccounts rules workers log) (λ (r : ReadTold). AllByRecursion (λ reading. reading.word ≤ units_of reading.id.0 works) r.shown.counters) reads each
      (of_all made (λ id v. v ≤ units_of id works) reads low (all_below reads each))))
