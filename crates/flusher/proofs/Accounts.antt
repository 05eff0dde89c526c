-- A flusher keeps its accounts through each call.
use Rattle.std.proofs.Common.{◌≡◌, ℕ, ◌<◌, ◌⊎◌, Option, Some, None, Result, Ok, Err, List, [], ◌∷◌, ◌++◌, map, length, drop, false, refl, ap, sym, ◌∙◌, subst, arith, append-nil, All, inl, inr}
use Rattle.std.specs.Prelude.{IfSome, OnOk, OnErr}
use Rattle.std.specs.List.{AllByRecursion}
use Rattle.std.specs.List.Sorted.{IsStrictlyIncreasing}
use Rattle.std.proofs.lemmas.List.{map-append, length-map}
use Rattle.std.proofs.Math.Seq.{drop-length}
use Rattle.stat_defs.specs.Books.{BookHistory}
use Rattle.stat_defs.specs.declared.history.Entry.{Entry}
use Rattle.stat_defs.specs.declared.ids.Kind.TheVariants.{Counter, Gauge}
use Rattle.stat_defs.specs.declared.reports.Delta.{Delta}
use Rattle.stat_defs.specs.declared.reports.FlushRecord.{FlushRecord}
use Rattle.seat_history.specs.declared.known.LogKnown.{LogKnown}
use Rattle.seat_history.specs.History.{with_log, known_history}
use Rattle.merge_round.specs.Halves.{bins_by}
use Rattle.merge_round.specs.Rounds.{ParentsState, after_round, worker_values, ArePartsOf}
use Rattle.metric_words.specs.declared.counter_view.CountKind.TheVariants as count
use Rattle.metric_words.specs.Counters.{step_of, latches}
use Rattle.metric_words.specs.CounterLedger.{CounterKnown, after_step}
use Rattle.metric_words.specs.Gauges.{written}
use Rattle.metric_words.specs.GaugeLedger.{GaugeKnown}
use Rattle.stat_book.specs.Calls.{state_of}
use Rattle.book_access.specs.Calling.{Calls}
use Rattle.book_access.specs.Making.{IsAsFound}
use Rattle.locked_book.specs.declared.listing.Listing.{Listing}
use Rattle.locked_book.specs.Lists.{SweepsListed}
use Rattle.flush_words.specs.Words.{after_latches, after_gauge_loads}
use Rattle.flush_words.proofs.Appending.{loads-keep, latches-keep, loads-write-none}
use Rattle.flush_cells.specs.declared.tokens.FlushCell.{FlushCell}
use Rattle.flush_cells.specs.Cells.{cell_of, IsRoundOf}
use Rattle.flush_cells.specs.Asks.{AsksEach}
use Rattle.flush_cells.specs.Passes.{PassesEach}
use Rattle.flush_cells.proofs.InStep.{stay-in-step}
use Rattle.ledger.specs.Flushes.{flushed}
use Rattle.run_ledger.specs.Told.{FlushTold, halves_of}
use Rattle.run_ledger.specs.Accounts.{FlushAccounts}
use Rattle.run_ledger.specs.Grows.{Latches}
use Rattle.run_ledger.proofs.Grows.{run_grows}
use Rattle.store_parts.specs.Ids.{StoreIds}
use Rattle.flusher.specs.Flusher.{rules_by}
use Rattle.admin_side.proofs.Listed.{listed-is}
use Rattle.admin_side.proofs.Readings.{all-push, gauge_loads-taken}
use Rattle.flusher.specs.Shown.{Flushed}
use Rattle.flusher.specs.Flusher.{FlusherKnown, FlusherAccounts, Begun, Begins, RoundAccounts, IsNewToken, new_flusher, with_seat, begun_by, told_of, round_by, at_of, sweeps_of}
use Rattle.flusher.proofs.Rising.{rises-more}
use Rattle.flusher.proofs.Sweeping.{still-flushed, found-further, swept-further, swept-found, swept-made, round-begun}
use Rattle.flusher.proofs.Taking.{new-in-step, many-halves, round-parts, round-over}

pub new-accounts : (of : StoreIds) (seat : LogKnown) (counters : CounterKnown) (gauges : GaugeKnown) (tokens : List FlushCell)
    → seat.made ≡ [] → (counters.own.steps ≡ []) × (counters.taken ≡ []) → (gauges.own.steps ≡ []) × (gauges.taken ≡ []) → All IsNewToken tokens → length tokens ≡ seat.workers
    → (counters.own.workers ≡ length tokens) × (gauges.own.workers ≡ length tokens) → FlusherAccounts (new_flusher of seat counters gauges tokens)
new-accounts of seat counters gauges tokens made counts words new many sized = record {
  latched = λ id. ap (λ l. latches id l) counts.0;
  idle = λ id. ap (λ l. written id l) words.0;
  alone = (words.1, counts.1);
  sized = sized;
  each = tt;
  rise = λ k short. absurd (omega (arith, short));
  sweeps = made;
  round = tt;
  halves = new-in-step 1 tokens new;
  workers = many;
}

-- the log was found, and nothing else was done
pub accounts-found : (k : FlusherKnown) (seat : LogKnown) → Calls IsAsFound k.seat seat → k.round ≡ None → FlusherAccounts k → FlusherAccounts (with_seat seat k)
accounts-found k seat c none was = record {
  latched = was.latched;
  idle = was.idle;
  alone = was.alone;
  sized = was.sized;
  each = still-flushed k.seat seat k.flushes (found-further k.seat seat c) was.each;
  rise = was.rise;
  sweeps = made ∙ was.sweeps;
  round = subst (λ (o : Option Begun). IfSome o (RoundAccounts seat k.flushes)) (sym none) tt;
  halves = was.halves;
  workers = was.workers ∙ sym (ap (λ (z : LogKnown). z.workers) c.leaves);
} where
  made : seat.made ≡ k.seat.made
  made = ap (λ (z : LogKnown). z.made) c.leaves ∙ (ap (λ (l : List Entry). k.seat.made ++ drop (length c.found.log) l) (ap (λ (b : BookHistory). b.log) c.makes)
      ∙ (ap (λ (l : List Entry). k.seat.made ++ l) (drop-length c.found.log) ∙ append-nil k.seat.made))

-- the same, or nothing was done
pub accounts-unbegun : (k : FlusherKnown) (seat : LogKnown) → (seat ≡ k.seat) ⊎ Calls IsAsFound k.seat seat → k.round ≡ None → FlusherAccounts k → FlusherAccounts (with_seat seat k)
accounts-unbegun k seat (inl same) none was = subst (λ (z : LogKnown). FlusherAccounts (with_seat z k)) (sym same) was
accounts-unbegun k seat (inr c) none was = accounts-found k seat c none was

-- as many tokens of the same cells
same-many : (olds news : List FlushCell) → map cell_of news ≡ map cell_of olds → length news ≡ length olds
same-many olds news cells = sym (length-map news cell_of) ∙ (ap length cells ∙ length-map olds cell_of)

-- a round was begun
pub accounts-begun : (k : FlusherKnown) (seat : LogKnown) (listing : Listing) (tokens : List FlushCell) → Calls (SweepsListed listing) k.seat seat → k.seat.number ≡ 0 → k.round ≡ None
    → AsksEach k.tokens tokens → map cell_of tokens ≡ map cell_of k.tokens → FlusherAccounts k
    → FlusherAccounts (record {
      of = k.of;
      seat = seat;
      counters = k.counters;
      gauges = k.gauges;
      tokens = tokens;
      parents = k.parents;
      flushes = k.flushes;
      round = Some (begun_by seat listing);
    })
accounts-begun k seat listing tokens c number none asks cells was =
    let further = swept-further listing k.seat seat c in
    let many = same-many k.tokens tokens cells in record {
      latched = was.latched;
      idle = was.idle;
      alone = was.alone;
      sized = (was.sized.0 ∙ sym many, was.sized.1 ∙ sym many);
      each = still-flushed k.seat seat k.flushes further was.each;
      rise = was.rise;
      sweeps = swept-made listing k.seat seat c number ∙ ap (λ (l : List Entry). l ++ (begun_by seat listing).sweep ∷ []) swept-before;
      round = round-begun listing k.seat seat c k.flushes number was.each;
      halves = stay-in-step.asks (λ worker. halves_of worker k.flushes) k.parents k.tokens tokens asks was.halves;
      workers = many ∙ (was.workers ∙ sym further.workers);
    } where
      swept-before : k.seat.made ≡ map (λ (flush : FlushTold). flush.sweep) k.flushes
      swept-before =
          was.sweeps ∙ (ap (λ (o : Option Begun). map (λ (flush : FlushTold). flush.sweep) k.flushes ++ sweeps_of o) none
          ∙ append-nil (map (λ (flush : FlushTold). flush.sweep) k.flushes))

-- what was done to begin it
pub begins : (k : FlusherKnown) (seat : LogKnown) (listing : Listing) (tokens : List FlushCell) → Calls (SweepsListed listing) k.seat seat → k.seat.number ≡ 0 → AsksEach k.tokens tokens
    → Begins k (record {
      of = k.of;
      seat = seat;
      counters = k.counters;
      gauges = k.gauges;
      tokens = tokens;
      parents = k.parents;
      flushes = k.flushes;
      round = Some (begun_by seat listing);
    })
begins k seat listing tokens c number asks = record {
  begun = begun_by seat listing;
  sweeps = c;
  found = sym (swept-found listing k.seat seat c);
  sweep = swept-made listing k.seat seat c number;
  asks = asks;
  rest = refl;
}

-- each cell was looked at once
pub accounts-looked : (k : FlusherKnown) (parents : ParentsState) (tokens : List FlushCell) → PassesEach 1 k.parents k.tokens parents tokens → map cell_of tokens ≡ map cell_of k.tokens → FlusherAccounts k
    → FlusherAccounts (record {
      of = k.of;
      seat = k.seat;
      counters = k.counters;
      gauges = k.gauges;
      tokens = tokens;
      parents = parents;
      flushes = k.flushes;
      round = k.round;
    })
accounts-looked k parents tokens passes cells was =
    let many = same-many k.tokens tokens cells in record {
      latched = was.latched;
      idle = was.idle;
      alone = was.alone;
      sized = (was.sized.0 ∙ sym many, was.sized.1 ∙ sym many);
      each = was.each;
      rise = was.rise;
      sweeps = was.sweeps;
      round = was.round;
      halves = stay-in-step.pass (λ worker. halves_of worker k.flushes) k.parents parents k.tokens tokens passes was.halves;
      workers = many ∙ was.workers;
    }

-- the same, or nothing was done
pub accounts-passed : (k : FlusherKnown) (parents : ParentsState) (tokens : List FlushCell) → ((parents ≡ k.parents) × (tokens ≡ k.tokens)) ⊎ PassesEach 1 k.parents k.tokens parents tokens
    → map cell_of tokens ≡ map cell_of k.tokens → FlusherAccounts k
    → FlusherAccounts (record {
      of = k.of;
      seat = k.seat;
      counters = k.counters;
      gauges = k.gauges;
      tokens = tokens;
      parents = parents;
      flushes = k.flushes;
      round = k.round;
    })
accounts-passed k parents tokens (inl same) cells was =
    subst FlusherAccounts
    (λ i. record {
      of = k.of;
      seat = k.seat;
      counters = k.counters;
      gauges = k.gauges;
      tokens = sym same.1 i;
      parents = sym same.0 i;
      flushes = k.flushes;
      round = k.round;
    })
    was
accounts-passed k parents tokens (inr passes) cells was = accounts-looked k parents tokens passes cells was

pub passed-or-not : {T E : Type 0} (r : Result T E) {P Q : Type 0} → OnOk r P → OnErr r (Q ⊎ P) → Q ⊎ P
passed-or-not (Ok x) ok err = inr ok
passed-or-not (Err e) ok err = err

pub are-latches : (ds : List Delta) (k : CounterKnown) → Latches ds k.own.steps (after_latches ds k).own.steps
are-latches [] k = refl
are-latches (d ∷ ds) k = are-latches ds (after_step (step_of count.Latch d.id.0 0 d.n) k)

module _ (k : FlusherKnown) (begun : Begun) (shown : FlushRecord) (was : FlusherAccounts k) (alone : IsRoundOf (length k.tokens) k.parents.round) (is : k.round ≡ Some begun) (shows : Flushed begun.listing shown)
    (parts : ArePartsOf (λ worker. bins_by (worker_values worker k.parents.round)) shown.parts) where
  round : RoundAccounts k.seat k.flushes begun
  round = subst (λ (o : Option Begun). IfSome o (RoundAccounts k.seat k.flushes)) is was.round

  abbrev told : FlushTold
  told = told_of begun shown (round_by (length k.tokens) k.parents)

  told-accounts : FlushAccounts (rules_by k.seat) k.seat.workers k.seat.known false told
  told-accounts = record {
    behind = [];
    whole = round.known;
    at = shows.at ∙ round.lists.at;
    sweep = round.sweep;
    counters = shows.counters ∙ (round.lists.counters ∙ listed-is Counter (state_of (with_log begun.found (known_history k.seat))));
    gauges = shows.gauges ∙ (round.lists.gauges ∙ listed-is Gauge (state_of (with_log begun.found (known_history k.seat))));
    each = many-halves k.tokens k.parents alone ∙ was.workers;
    parts = round-parts k.tokens k.parents alone told refl shown.parts parts;
  }

  places-rise : IsStrictlyIncreasing (map at_of (k.flushes ++ told ∷ []))
  places-rise =
      subst IsStrictlyIncreasing (sym (map-append at_of k.flushes (told ∷ [])))
      (rises-more at_of k.flushes shown.at (subst (λ (n : ℕ). AllByRecursion (λ flush. at_of flush < n) k.flushes) (sym shows.at) round.later) was.rise)

  -- the round is over
  pub accounts-flushed : FlusherAccounts (record {
    of = k.of;
    seat = k.seat;
    counters = after_latches shown.deltas k.counters;
    gauges = after_gauge_loads shown.gauges k.gauges;
    tokens = k.tokens;
    parents = after_round k.parents;
    flushes = k.flushes ++ told ∷ [];
    round = None;
  })
  accounts-flushed = record {
    latched = λ id.
        run_grows.latches id (map (λ (flush : FlushTold). flush.shown) k.flushes) shown k.counters.own.steps (after_latches shown.deltas k.counters).own.steps (was.latched id) (are-latches shown.deltas k.counters)
        ∙ ap (λ (l : List FlushRecord). flushed id l) (sym (map-append (λ (flush : FlushTold). flush.shown) k.flushes (told ∷ [])));
    idle = λ id. loads-write-none shown.gauges k.gauges id ∙ was.idle id;
    alone = (gauge_loads-taken shown.gauges k.gauges ∙ was.alone.0, (latches-keep shown.deltas k.counters).0 ∙ was.alone.1);
    sized = ((latches-keep shown.deltas k.counters).1 ∙ was.sized.0, (loads-keep shown.gauges k.gauges).1 ∙ was.sized.1);
    each = all-push (FlushAccounts (rules_by k.seat) k.seat.workers k.seat.known false) k.flushes told told-accounts was.each;
    rise = places-rise;
    sweeps = was.sweeps
        ∙ (ap (λ (o : Option Begun). map (λ (flush : FlushTold). flush.sweep) k.flushes ++ sweeps_of o) is
        ∙ (sym (map-append (λ (flush : FlushTold). flush.sweep) k.flushes (told ∷ [])) ∙ sym (append-nil (map (λ (flush : FlushTold). flush.sweep) (k.flushes ++ told ∷ [])))));
    round = tt;
    halves = round-over k.tokens k.parents alone told refl k.flushes was.halves;
    workers = was.workers;
  }
