-- What a flusher of a store knows and tells (this project's own). Its own calls alone change it.
use Rattle.std.specs.Prelude.{◌≡◌, ◌⊎◌, ℕ, ◌<◌, false, Option, Some, None, IfSome, List, [], ◌∷◌, ◌++◌, length, map}
use Rattle.std.specs.Prelude.{take}
use Rattle.std.specs.List.{AllByRecursion, range_with_len}
use Rattle.std.specs.List.Sorted.{IsStrictlyIncreasing}
use Rattle.stat_defs.specs.Books.{BookHistory}
use Rattle.stat_defs.specs.declared.history.Call.TheVariants as call
use Rattle.stat_defs.specs.declared.history.Entry.{Entry}
use Rattle.stat_defs.specs.declared.history.Reply.TheVariants as reply
use Rattle.stat_defs.specs.declared.reports.FlushRecord.{FlushRecord}
use Rattle.seat_history.specs.declared.known.LogKnown.{LogKnown}
use Rattle.seat_history.specs.History.{with_log, known_history}
use Rattle.merge_round.specs.Halves.{bins_by}
use Rattle.merge_round.specs.Rounds.{ParentsState, new_parents, after_round, worker_values, ArePartsOf}
use Rattle.metric_words.specs.Counters.{latches}
use Rattle.metric_words.specs.CounterLedger.{CounterKnown}
use Rattle.metric_words.specs.Gauges.{written}
use Rattle.metric_words.specs.GaugeLedger.{GaugeKnown}
use Rattle.turn_cell.specs.Tokens.{cell_id, idle_known}
use Rattle.book_state.specs.Step.{overdue_in}
use Rattle.stat_book.specs.Calls.{state_of}
use Rattle.book_access.specs.Calling.{Calls}
use Rattle.book_access.specs.Making.{IsAsFound}
use Rattle.locked_book.specs.declared.listing.Listing.{Listing}
use Rattle.locked_book.specs.Lists.{Lists, SweepsListed}
use Rattle.flush_words.specs.Words.{after_latches, after_gauge_loads}
use Rattle.flush_cells.specs.declared.tokens.FlushCell.{FlushCell}
use Rattle.flush_cells.specs.declared.tokens.FlushCell.TheVariants.{Idle}
use Rattle.flush_cells.specs.Cells.{cell_of}
use Rattle.flush_cells.specs.Asks.{AsksEach}
use Rattle.flush_cells.specs.Passes.{PassesEach}
use Rattle.flush_cells.specs.Taken.{HalfValues, round_of, EachInStep}
use Rattle.ledger.specs.Flushes.{flushed}
use Rattle.run_ledger.specs.Told.{FlushTold, halves_of}
use Rattle.run_ledger.specs.Accounts.{FlushAccounts}
use Rattle.store_parts.specs.declared.store.Store.{Store}
use Rattle.store_parts.specs.Ids.{StoreIds, ids_of}
use Rattle.flusher.specs.Shown.{Flushed}
use Rattle.seat_history.specs.History.{known_history}
use Rattle.book_state.specs.State.{NameRules}
use Rattle.stat_book.specs.Calls.{rules_of}

-- the rules of the names of the book, as the seat knows it
abbrev pub rules_by : LogKnown → NameRules
rules_by seat = rules_of (known_history seat)

-- a round that is begun: what its sweep listed, the log that the sweep found, and the sweep's entry
pub record Begun : Type 0 where
  pub listing : Listing
  pub found : List Entry
  pub sweep : Entry

-- What its seats and tokens are tied to; what its seats know of the log, of the counters and of the gauges; its tokens
-- of the workers' cells, in order; what it merged; each of its flushes, in order; and the round that is begun.
pub record FlusherKnown : Type 0 where
  pub of : StoreIds
  pub seat : LogKnown
  pub counters : CounterKnown
  pub gauges : GaugeKnown
  pub tokens : List FlushCell
  pub parents : ParentsState
  pub flushes : List FlushTold
  pub round : Option Begun

abbrev pub new_flusher : StoreIds → LogKnown → CounterKnown → GaugeKnown → List FlushCell → FlusherKnown
new_flusher of seat counters gauges tokens = record {
  of = of;
  seat = seat;
  counters = counters;
  gauges = gauges;
  tokens = tokens;
  parents = new_parents;
  flushes = [];
  round = None;
}

-- a token with which no half was taken yet
abbrev pub IsNewToken : FlushCell → Type 0
IsNewToken (Idle f) = (idle_known f).halves ≡ []
IsNewToken other = ⊥

-- its seats and tokens are of this store
pub record IsFlusherOf (store : Store) (k : FlusherKnown) : Type 0 where
  pub of : k.of ≡ ids_of store
  pub number : k.seat.number ≡ 0
  pub cells : map cell_of k.tokens ≡ map cell_id store.cells.items

-- the same, whose seat of the book knows this of the log
abbrev pub with_seat : LogKnown → FlusherKnown → FlusherKnown
with_seat seat k = record {
  of = k.of;
  seat = seat;
  counters = k.counters;
  gauges = k.gauges;
  tokens = k.tokens;
  parents = k.parents;
  flushes = k.flushes;
  round = k.round;
}

-- the log that its seat knows was found, and nothing else was done
pub record FindsOnly (k k' : FlusherKnown) : Type 0 where
  pub found : Calls IsAsFound k.seat k'.seat
  pub rest : k' ≡ with_seat k'.seat k

-- a sweep had no memory: nothing was done but that the log may have been found
abbrev pub FindsAtMost : FlusherKnown → FlusherKnown → Type 0
FindsAtMost k k' = (k' ≡ k) ⊎ FindsOnly k k'

-- the entry of a sweep of this book by the store
abbrev pub sweep_of : BookHistory → Entry
sweep_of book = record { seat = 0; call = call.Sweep; reply = reply.Swept (length (overdue_in (state_of book))) }

-- the round of this listing, which was begun by a sweep of the log up to its place
abbrev pub begun_by : LogKnown → Listing → Begun
begun_by seat listing = record {
  listing = listing;
  found = take listing.at seat.known;
  sweep = sweep_of (with_log (take listing.at seat.known) (known_history seat));
}

-- A round is begun. Under the lock it took the listing of the log that it found, and made one sweep; then it asked each
-- worker once.
pub record Begins (k k' : FlusherKnown) : Type 0 where
  pub begun : Begun
  pub sweeps : Calls (SweepsListed begun.listing) k.seat k'.seat
  pub found : sweeps.found.log ≡ begun.found
  pub sweep : k'.seat.made ≡ k.seat.made ++ begun.sweep ∷ []
  pub asks : AsksEach k.tokens k'.tokens
  pub rest : k' ≡ record {
    of = k.of;
    seat = k'.seat;
    counters = k.counters;
    gauges = k.gauges;
    tokens = k'.tokens;
    parents = k.parents;
    flushes = k.flushes;
    round = Some begun;
  }

-- One look at each cell whose worker was asked, and the halves that were there are merged.
pub record LooksOnce (k k' : FlusherKnown) : Type 0 where
  pub passes : PassesEach 1 k.parents k.tokens k'.parents k'.tokens
  pub rest : k' ≡ record {
    of = k.of;
    seat = k.seat;
    counters = k.counters;
    gauges = k.gauges;
    tokens = k'.tokens;
    parents = k'.parents;
    flushes = k.flushes;
    round = k.round;
  }

-- the halves that were merged in the round, of each of so many workers
abbrev pub round_by : ℕ → ParentsState → List HalfValues
round_by workers parents = map (λ worker. round_of worker parents.round) (range_with_len 1 workers)

-- a flush of the round, with the log that its sweep found and the halves that were merged in the round
abbrev pub told_of : Begun → FlushRecord → List HalfValues → FlushTold
told_of begun shown halves = record { shown = shown; found = begun.found; sweep = begun.sweep; halves = halves }

-- The round that was begun is over. Each counter of its listing was latched once and each gauge loaded once, in order;
-- the flush shows what they found, and the parts of the values that each worker has in the round.
pub record Flushes (shown : FlushRecord) (k k' : FlusherKnown) : Type 0 where
  pub begun : Begun
  pub was : k.round ≡ Some begun
  pub shows : Flushed begun.listing shown
  pub parts : ArePartsOf (λ worker. bins_by (worker_values worker k.parents.round)) shown.parts
  pub told : k' ≡ record {
    of = k.of;
    seat = k.seat;
    counters = after_latches shown.deltas k.counters;
    gauges = after_gauge_loads shown.gauges k.gauges;
    tokens = k.tokens;
    parents = after_round k.parents;
    flushes = k.flushes ++ told_of begun shown (round_by (length k.tokens) k.parents) ∷ [];
    round = None;
  }

abbrev pub at_of : FlushTold → ℕ
at_of flush = flush.shown.at

abbrev pub sweeps_of : Option Begun → List Entry
sweeps_of None = []
sweeps_of (Some begun) = begun.sweep ∷ []

-- What is true of a round that is begun: its sweep ends the log that the seat knows, behind the log that it found and
-- listed, and no earlier flush has its place or a later one.
pub record RoundAccounts (seat : LogKnown) (flushes : List FlushTold) (begun : Begun) : Type 0 where
  pub known : seat.known ≡ begun.found ++ begun.sweep ∷ []
  pub lists : Lists begun.listing (with_log begun.found (known_history seat))
  pub sweep : (begun.sweep.call ≡ call.Sweep) × (begun.sweep.seat ≡ 0)
  pub later : AllByRecursion (λ flush. at_of flush < begun.listing.at) flushes

-- What is true of a flusher at every moment.
pub record FlusherAccounts (k : FlusherKnown) : Type 0 where
  -- its deltas of a counter are what its latches of it found; it has written no gauge, and taken in no other seat
  pub latched : (id : ℕ) → latches id k.counters.own.steps ≡ flushed id (map (λ flush. flush.shown) k.flushes)
  pub idle : (id : ℕ) → written id k.gauges.own.steps ≡ 0
  pub alone : (k.gauges.taken ≡ []) × (k.counters.taken ≡ [])
  -- its banks are of as many workers as it has tokens of
  pub sized : (k.counters.own.workers ≡ length k.tokens) × (k.gauges.own.workers ≡ length k.tokens)
  -- each flush accounts for the log that its seat knows; their places rise; and its seat made their sweeps alone, and
  -- that of the round that is begun
  pub each : AllByRecursion (FlushAccounts (rules_by k.seat) k.seat.workers k.seat.known false) k.flushes
  pub rise : IsStrictlyIncreasing (map at_of k.flushes)
  pub sweeps : k.seat.made ≡ map (λ flush. flush.sweep) k.flushes ++ sweeps_of k.round
  pub round : IfSome k.round (RoundAccounts k.seat k.flushes)
  -- the halves that it took of a worker are those of its flushes, those of this round, and the one that it holds; and
  -- it has a token of each worker
  pub halves : EachInStep 1 (λ worker. halves_of worker k.flushes) k.parents k.tokens
  pub workers : length k.tokens ≡ k.seat.workers
