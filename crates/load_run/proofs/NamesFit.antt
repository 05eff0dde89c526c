-- What the events of scripts name.
use Rattle.std.proofs.Common.{◌≡◌, ◌≤◌, ◌<◌, ◌+◌, ◌/◌, ◌%◌, ◌==◌, ℕ, zero, suc, cond, Bool, true, false, Option, None, Some, List, [], ◌++◌, length, length-append, map, codes, refl, sym, ap, ◌∙◌, subst, inl, inr, arith}
use Rattle.std.specs.Prelude.{Contains, IsSome, unwrap_or, option_and_then}
use Rattle.std.specs.List.{range_with_len, AllByRecursion}
use Rattle.std.proofs.lemmas.List.FromFn.{length-map-range_with_len}
use Rattle.std.proofs.lemmas.List.Sums.{count_by-le-length}
use Rattle.stat_defs.specs.declared.events.Event.{Event}
use Rattle.stat_defs.specs.declared.events.Event.TheVariants as event
use Rattle.stat_defs.specs.declared.events.GaugeOp.TheVariants.{Add}
use Rattle.stat_defs.specs.declared.events.Key.{Key}
use Rattle.stat_defs.specs.declared.ids.Kind.TheVariants.{Counter, Gauge, Histogram}
use Rattle.stat_defs.specs.declared.ids.Mode.TheVariants.{Uninit, Accumulate}
use Rattle.stat_defs.specs.Keys.{same_kind}
use Rattle.stat_defs.specs.Names.{full}
use Rattle.book_state.specs.Follows.{event_key, key_in}
use Rattle.book_state.proofs.Lists.{true_false, some_same, not_some, eq_or}
use Rattle.ledger.specs.Ledger.{RunPlan}
use Rattle.all_accepted.specs.Admitted.{NamedKind, Names, HasRoomForAll, named_by, named_under, prefix_under}
use Rattle.all_accepted.proofs.InLists.{In, in_list, all_in, all_as}
use Rattle.all_accepted.proofs.Tight.{in_contains, in_left, in_right}
use Rattle.same_output.specs.Independent.{has_order}
use Rattle.load_scripts.specs.declared.limits.TheConstants.{MAX_SCRIPTS}
use Rattle.load_scripts.specs.Load.{next_state, drawn, event_by, events_behind, script_events, scripts, counter_name, histogram_name, gauge_name}

-- how many counters and histograms scripts share; not to be unfolded where lists are as long
pub counters : ℕ
counters = 512

counters_are : counters ≡ 512
unfolding counters
counters_are = refl

pub histograms : ℕ
histograms = 16

histograms_are : histograms ≡ 16
unfolding histograms
histograms_are = refl

in_range : {X : Type 0} (f : ℕ → X) (a n i : ℕ) → a ≤ i → i < a + n → In (map f (range_with_len a n)) (f i)
in_range f a zero i low high = absurd (omega (arith, low, high))
in_range f a (suc n) i low high = elim (eq_or a i) [
  | inl same ↦ inl (ap f same)
  | inr other ↦ inr (in_range f (a + 1) n i (omega (arith, low, other)) (omega (arith, high)))
]

-- a key under a scope names its kind and its full name, where it names any
named_in : (plan : RunPlan) (key : Key) (scope : Option (List ℕ)) (n : NamedKind)
    → option_and_then (named_under plan key) scope ≡ Some n → n ≡ (key.kind, full (unwrap_or scope []) key.name)
named_in plan key None n is = absurd (not_some n is)
named_in plan key (Some prefix) n is = by_case (plan.rules.admits (full prefix key.name)) is
  where
    by_case : (t : Bool) → cond t (Some (key.kind, full prefix key.name)) None ≡ Some n → n ≡ (key.kind, full prefix key.name)
    by_case true some = sym (some_same (key.kind, full prefix key.name) n some)
    by_case false none = absurd (not_some n none)

module _ (plan : RunPlan) where
  -- the prefix of the scope that all events are in; any, where that is not opened
  abbrev pub prefix : List ℕ
  prefix = unwrap_or (prefix_under plan.scopes (codes "root")) []

  abbrev pub counter_at : ℕ → NamedKind
  counter_at i = (Counter, full prefix (counter_name i))

  abbrev pub histogram_at : ℕ → NamedKind
  histogram_at i = (Histogram, full prefix (histogram_name i))

  abbrev pub gauge_at : ℕ → NamedKind
  gauge_at script = (Gauge, full prefix (gauge_name script))

  -- what so many scripts may name
  abbrev pub all_names : ℕ → List NamedKind
  all_names count =
      map counter_at (range_with_len 0 counters)
      ++ (map histogram_at (range_with_len 0 histograms) ++ map gauge_at (range_with_len 1 count))

  counter_in : (count i : ℕ) → i < 512 → In (all_names count) (counter_at i)
  counter_in count i few =
      in_left (map counter_at (range_with_len 0 counters)) _ (counter_at i)
      (in_range counter_at 0 counters i (omega arith) (let are = counters_are in omega (arith, few, are)))

  histogram_in : (count i : ℕ) → i < 16 → In (all_names count) (histogram_at i)
  histogram_in count i few =
      in_right (map counter_at (range_with_len 0 counters)) _ (histogram_at i)
      (in_left (map histogram_at (range_with_len 0 histograms)) _ (histogram_at i)
      (in_range histogram_at 0 histograms i (omega arith) (let are = histograms_are in omega (arith, few, are))))

  gauge_in : (count script : ℕ) → 1 ≤ script → script ≤ count → In (all_names count) (gauge_at script)
  gauge_in count script low high =
      in_right (map counter_at (range_with_len 0 counters)) _ (gauge_at script)
      (in_right (map histogram_at (range_with_len 0 histograms)) _ (gauge_at script)
      (in_range gauge_at 1 count script low (omega (arith, high))))

  all_few : (count : ℕ) → count ≤ MAX_SCRIPTS → length (all_names count) ≤ 560
  all_few count few =
      let front = length-append (map counter_at (range_with_len 0 counters)) (map histogram_at (range_with_len 0 histograms) ++ map gauge_at (range_with_len 1 count)) in
      let back = length-append (map histogram_at (range_with_len 0 histograms)) (map gauge_at (range_with_len 1 count)) in
      let a = length-map-range_with_len counter_at 0 counters in
      let b = length-map-range_with_len histogram_at 0 histograms in
      let c = length-map-range_with_len gauge_at 1 count in
      let many = counters_are in
      let some = histograms_are in
      omega (arith, front, back, a, b, c, many, some, few)

  -- an event names one of all names, and of those with an order the script's gauge alone
  pub record IsOfScript (count script : ℕ) (e : Event) : Type 0 where
    pub keyed : IsSome (event_key e)
    pub named : (n : NamedKind) → named_by plan e ≡ Some n → In (all_names count) n
    pub ordered : (n : NamedKind) → named_by plan e ≡ Some n → has_order n.0 ≡ true → n ≡ gauge_at script

  counter_named : (name : List ℕ) (v : ℕ) (n : NamedKind) → named_by plan (event.Inc (codes "root") name v) ≡ Some n
      → n ≡ (Counter, full prefix name)
  counter_named name v n is =
      named_in plan (key_in (codes "root") Counter Uninit name) (prefix_under plan.scopes (codes "root")) n is

  histogram_named : (name : List ℕ) (v : ℕ) (n : NamedKind) → named_by plan (event.Rec (codes "root") name v) ≡ Some n
      → n ≡ (Histogram, full prefix name)
  histogram_named name v n is =
      named_in plan (key_in (codes "root") Histogram Uninit name) (prefix_under plan.scopes (codes "root")) n is

  gauge_named : (name : List ℕ) (v : ℕ) (n : NamedKind)
      → named_by plan (event.Gauge (codes "root") name Accumulate Add v) ≡ Some n → n ≡ (Gauge, full prefix name)
  gauge_named name v n is =
      named_in plan (key_in (codes "root") Gauge Accumulate name) (prefix_under plan.scopes (codes "root")) n is

  no_order : (n named : NamedKind) → n ≡ named → has_order named.0 ≡ false → has_order n.0 ≡ true → ⊥
  no_order n named is none order = true_false (sym order ∙ ap (λ (m : NamedKind). has_order m.0) is ∙ none)

  member : (count : ℕ) (n named : NamedKind) → n ≡ named → In (all_names count) named → In (all_names count) n
  member count n named is has = subst (λ (m : NamedKind). In (all_names count) m) (sym is) has

  counter_is : (count script i v : ℕ) → i < 512 → IsOfScript count script (event.Inc (codes "root") (counter_name i) v)
  counter_is count script i v few = record {
    keyed = refl;
    named = λ n is. member count n (counter_at i) (counter_named (counter_name i) v n is) (counter_in count i few);
    ordered = λ n is order. absurd (no_order n (counter_at i) (counter_named (counter_name i) v n is) refl order);
  }

  histogram_is : (count script i v : ℕ) → i < 16 → IsOfScript count script (event.Rec (codes "root") (histogram_name i) v)
  histogram_is count script i v few = record {
    keyed = refl;
    named = λ n is. member count n (histogram_at i) (histogram_named (histogram_name i) v n is) (histogram_in count i few);
    ordered = λ n is order. absurd (no_order n (histogram_at i) (histogram_named (histogram_name i) v n is) refl order);
  }

  gauge_is : (count script v : ℕ) → 1 ≤ script → script ≤ count
      → IsOfScript count script (event.Gauge (codes "root") (gauge_name script) Accumulate Add v)
  gauge_is count script v low high = record {
    keyed = refl;
    named = λ n is. member count n (gauge_at script) (gauge_named (gauge_name script) v n is) (gauge_in count script low high);
    ordered = λ n is order. gauge_named (gauge_name script) v n is;
  }

  event_is : (count script r : ℕ) → 1 ≤ script → script ≤ count → IsOfScript count script (event_by script r)
  event_is count script r low high = pick (r % 4 == 2) (r % 4 == 3)
    where
      pick : (recorded moved : Bool) → IsOfScript count script (cond recorded (event.Rec (codes "root") (histogram_name (r / 4 % 16)) (r / 2048 % 100000))
          (cond moved (event.Gauge (codes "root") (gauge_name script) Accumulate Add (r / 2048 % 1000)) (event.Inc (codes "root") (counter_name (r / 4 % 512)) (r / 2048 % 1000))))
      pick true moved = histogram_is count script (r / 4 % 16) (r / 2048 % 100000) (omega arith)
      pick false true = gauge_is count script (r / 2048 % 1000) low high
      pick false false = counter_is count script (r / 4 % 512) (r / 2048 % 1000) (omega arith)

  behind_are : (count script x n : ℕ) → 1 ≤ script → script ≤ count
      → AllByRecursion (IsOfScript count script) (events_behind script x n)
  behind_are count script x zero low high = tt
  behind_are count script x (suc n) low high =
      (event_is count script (drawn (next_state x)) low high, behind_are count script (next_state x) n low high)

  script_keyed : (count script n : ℕ) → 1 ≤ script → script ≤ count
      → AllByRecursion (λ e. IsSome (event_key e)) (script_events script n)
  script_keyed count script n low high =
      all_as (IsOfScript count script) (λ e. IsSome (event_key e)) (script_events script n) (λ e is. is.keyed)
      (behind_are count script script n low high)

  script_is : (count script n : ℕ) (named : NamedKind) → 1 ≤ script → script ≤ count
      → (has : Names plan named (script_events script n)) → IsOfScript count script has.0
  script_is count script n named low high has =
      all_in (IsOfScript count script) (script_events script n) has.0 (behind_are count script script n low high)
      (in_list (script_events script n) has.0 has.1)

  script_named : (count script n : ℕ) → 1 ≤ script → script ≤ count
      → (named : NamedKind) → Names plan named (script_events script n) → In (all_names count) named
  script_named count script n low high named has = (script_is count script n named low high has).named named has.2

  pub script_ordered : (count script n : ℕ) (named : NamedKind) → 1 ≤ script → script ≤ count → has_order named.0 ≡ true
      → Names plan named (script_events script n) → named ≡ gauge_at script
  script_ordered count script n named low high order has =
      (script_is count script n named low high has).ordered named has.2 order

  -- what holds of each script holds of all
  of_all : (P : List Event → Type 0) (count n first more : ℕ)
      → ((script : ℕ) → 1 ≤ script → script ≤ count → P (script_events script n))
      → 1 ≤ first → first + more ≤ count + 1
      → AllByRecursion P (map (λ script. script_events script n) (range_with_len first more))
  of_all P count n first zero each low high = tt
  of_all P count n first (suc more) each low high = (
    each first low (omega (arith, high)),
    of_all P count n (first + 1) more each (omega arith) (omega (arith, high)),
  )

  pub room : (count n : ℕ) → count ≤ MAX_SCRIPTS → HasRoomForAll plan (scripts count n)
  room count n few = record {
    no_scopes = of_all (λ file. AllByRecursion (λ e. IsSome (event_key e)) file) count n 1 count
        (λ script low high. script_keyed count script n low high) (omega arith) (omega arith);
    names = all_names count;
    all_named = of_all (λ file. (named : NamedKind) → Names plan named file → Contains (all_names count) named) count n 1 count
        (λ script low high named has. in_contains (all_names count) named (script_named count script n low high named has))
        (omega arith) (omega arith);
    few = (let short = all_few count few in omega (arith, short));
    few_histograms = (
        let short = all_few count few in
        let less = count_by-le-length (λ (named : NamedKind). same_kind named.0 Histogram) (all_names count) in
        omega (arith, short, less)
        );
  }
