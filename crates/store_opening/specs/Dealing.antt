-- What a new store has for each of its workers (this project's own).
use Rattle.std.specs.Prelude.{◌≡◌, ℕ, suc, ◌+◌, ◌<◌, List, [], ◌∷◌, length}
use Rattle.std.specs.Vec.Iter.{into_iter_items}
use Rattle.seat_history.specs.History.{new_known}
use Rattle.locked_book.specs.declared.shared.LockedBook.{LockedBook}
use Rattle.locked_book.specs.Sharing.{first_of, known_by, IsSeatOf}
use Rattle.metric_words.specs.declared.counter_seats.WorkerSeat.{WorkerSeat}
use Rattle.metric_words.specs.declared.gauge_seats.GaugeSeat.{GaugeSeat}
use Rattle.metric_words.specs.CounterLedger.{bank_id, worker_known, worker_part}
use Rattle.metric_words.specs.GaugeLedger.{gauges_id, gauge_known, gauge_part}
use Rattle.half_side.specs.Halves.{HalfKnown}
use Rattle.ledger.specs.Lists.{EachNumbered}
use Rattle.store_parts.specs.declared.store.Store.{Store}
use Rattle.store_parts.specs.Ids.{HasCell, lock_of}
use Rattle.recorder.specs.Knowing.{RecorderKnown}
use Rattle.store_opening.specs.declared.dealing.WorkerHand.{WorkerHand}
use Rattle.store_opening.specs.declared.dealing.Dealing.{Dealing}
use Rattle.store_opening.specs.Cells.{new_side}

module _ (store : Store) where
  -- the seat of this number of the store's book, which has made no call
  pub record IsSeatFor (number : ℕ) (seat : LockedBook) : Type 0 where
    pub own : IsSeatOf store.book seat
    pub new : known_by seat ≡ new_known (first_of store.book) number

  -- a seat of the store's counters, and the one of this number of its gauges, which have made no step
  pub record IsCountSeat (seat : WorkerSeat) : Type 0 where
    pub own : (worker_known seat).bank ≡ bank_id store.counters
    pub new : (worker_known seat).own.steps ≡ []

  pub record IsGaugeSeat (number : ℕ) (seat : GaugeSeat) : Type 0 where
    pub own : (gauge_known seat).bank ≡ gauges_id store.gauges
    pub is : (gauge_part seat).seat ≡ number
    pub new : (gauge_known seat).own.steps ≡ []
    pub alone : (gauge_known seat).taken ≡ []

  -- the new side of the cell at this place
  pub record IsSideFor (place : ℕ) (side : HalfKnown) : Type 0 where
    pub own : HasCell store place side.cell.cell
    pub new : side ≡ new_side side.cell.cell

  -- what the worker at this place is dealt; its seats of the book and of the gauges have its number
  pub record IsHandFor (place : ℕ) (hand : WorkerHand) : Type 0 where
    pub seat : IsSeatFor (suc place) hand.seat
    pub counts : IsCountSeat hand.counts
    pub gauges : IsGaugeSeat (suc place) hand.gauges
    pub side : IsSideFor place hand.side

  -- What is left where the workers below this place were dealt theirs: the seats of the book from the next worker's on,
  -- with the reader's at the end, and the parts of the workers from this place on.
  pub record AreLeft (place : ℕ) (left : Dealing) : Type 0 where
    pub seats : EachNumbered IsSeatFor (suc place) (into_iter_items left.seats)
    pub counts : EachNumbered (λ w. IsCountSeat) place (into_iter_items left.counts)
    pub gauges : EachNumbered IsGaugeSeat (suc place) (into_iter_items left.gauges)
    pub sides : EachNumbered IsSideFor place (into_iter_items left.sides)

-- the parts of so many workers are left, and the reader's seat
pub record HasLeft (workers : ℕ) (left : Dealing) : Type 0 where
  pub seats : length (into_iter_items left.seats) ≡ workers + 1
  pub counts : length (into_iter_items left.counts) ≡ workers
  pub gauges : length (into_iter_items left.gauges) ≡ workers
  pub sides : length (into_iter_items left.sides) ≡ workers

-- these lists are left, the first seat of the book taken
pub record IsQueued (seats : List LockedBook) (counts : List WorkerSeat) (gauges : List GaugeSeat)
    (sides : List HalfKnown) (first : LockedBook) (left : Dealing) : Type 0 where
  pub seats_left : seats ≡ first ∷ into_iter_items left.seats
  pub counts_left : into_iter_items left.counts ≡ counts
  pub gauges_left : into_iter_items left.gauges ≡ gauges
  pub sides_left : into_iter_items left.sides ≡ sides

-- the first of each list was dealt
pub record Deals (hand : WorkerHand) (old new : Dealing) : Type 0 where
  pub seat : into_iter_items old.seats ≡ hand.seat ∷ into_iter_items new.seats
  pub counts : into_iter_items old.counts ≡ hand.counts ∷ into_iter_items new.counts
  pub gauges : into_iter_items old.gauges ≡ hand.gauges ∷ into_iter_items new.gauges
  pub side : into_iter_items old.sides ≡ hand.side ∷ into_iter_items new.sides

-- no list is used up
pub record HasMore (left : Dealing) : Type 0 where
  pub seats : 0 < length (into_iter_items left.seats)
  pub counts : 0 < length (into_iter_items left.counts)
  pub gauges : 0 < length (into_iter_items left.gauges)
  pub sides : 0 < length (into_iter_items left.sides)

-- the recorder of a worker at this place that has done nothing yet
abbrev pub recorder_of : WorkerHand → ℕ → RecorderKnown
recorder_of hand place = record {
  of = record {
    lock = lock_of hand.seat;
    counters = (worker_known hand.counts).bank;
    gauges = (gauge_known hand.gauges).bank;
  };
  work = [];
  seat = known_by hand.seat;
  counts = worker_part hand.counts;
  gauges = gauge_part hand.gauges;
  side = hand.side;
  place = place;
  given = 0;
}
