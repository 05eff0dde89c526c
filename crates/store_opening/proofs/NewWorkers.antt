-- What is dealt to a worker of a new store makes a new recorder of it.
use Rattle.std.proofs.Common.{◌≡◌, ◌≢◌, ◌+◌, ◌-◌, ◌<◌, ℕ, suc, List, [], ◌∷◌, length, refl, ap, sym, subst, arith}
use Rattle.std.proofs.lemmas.List.Elements.{All-cons, All-nil}
use Rattle.std.specs.Vec.Iter.{into_iter_items}
use Rattle.stat_defs.specs.Books.{BookHistory}
use Rattle.stat_defs.specs.declared.configs.ScopeSpec.{ScopeSpec}
use Rattle.stat_defs.specs.declared.history.Entry.{Entry}
use Rattle.seat_history.specs.declared.known.LogKnown.{LogKnown}
use Rattle.seat_history.specs.History.{new_known}
use Rattle.book_state.specs.Laws.{AreOfOthers}
use Rattle.book_state.specs.Log.{openings}
use Rattle.stat_book.specs.Calls.{new_book, IsLegal}
use Rattle.book_seat.specs.SeatKept.{IsNewSeat}
use Rattle.book_seat.proofs.Followed.{seat_follows}
use Rattle.locked_book.specs.Sharing.{first_of, known_by}
use Rattle.ledger.specs.Lists.{EachNumbered}
use Rattle.store_parts.specs.declared.store.Store.{Store}
use Rattle.recorder.specs.Tied.{IsNewWorker}
use Rattle.store_opening.specs.declared.dealing.WorkerHand.{WorkerHand}
use Rattle.store_opening.specs.declared.dealing.Dealing.{Dealing}
use Rattle.store_opening.specs.Dealing.{IsSeatFor, IsCountSeat, IsGaugeSeat, IsSideFor, IsHandFor, AreLeft, HasLeft, Deals, recorder_of}

-- the openings of a configuration are the store's, and of no worker
store_opens : (at id : ℕ) (scopes : List ScopeSpec) → AreOfOthers (suc at) (openings id scopes)
store_opens at id [] = All-nil (λ (entry : Entry). suc at ≢ entry.seat)
store_opens at id (scope ∷ scopes) = All-cons (λ (entry : Entry). suc at ≢ entry.seat) _ (openings (suc id) scopes) (λ same. omega (arith, same)) (store_opens at (suc id) scopes)

-- a worker's seat of a new book is new
new_seats_are_new : (first : BookHistory) (place : ℕ) → first ≡ new_book first.config first.workers → IsLegal first → place < first.workers → IsNewSeat (new_known first (suc place))
new_seats_are_new first place new legal below = record {
  worker = (omega arith, omega (arith, below));
  others = subst (λ (b : BookHistory). AreOfOthers (suc place) b.log) (sym new) (store_opens place 0 first.config.scopes);
  legal = legal;
  fewest = omega arith;
}

module _ (store : Store) (place : ℕ) where
  is_new_seat : (hand : WorkerHand) → IsHandFor store place hand → IsLegal (first_of store.book) → place < (first_of store.book).workers → IsNewSeat (known_by hand.seat)
  is_new_seat hand is legal below = subst IsNewSeat (sym is.seat.new) (new_seats_are_new (first_of store.book) place store.whole.new legal below)

  is_new_worker : (hand : WorkerHand) → IsHandFor store place hand → IsNewSeat (known_by hand.seat) → IsNewWorker store (suc place) (recorder_of hand place)
  is_new_worker hand is new = record {
    worker = record {
      of = λ i. record { lock = is.seat.own i; counters = is.counts.own i; gauges = is.gauges.own i };
      number = ap (λ (k : LogKnown). k.number) is.seat.new;
      place = refl;
      cell = is.side.own;
    };
    gauges = is.gauges.is;
    work = refl;
    given = refl;
    followed = (seat_follows.begins (known_by hand.seat) new).1;
  }

pub first_one : {X : Type 0} (P : ℕ → X → Type 0) (n : ℕ) (xs rest : List X) (x : X) → xs ≡ x ∷ rest → EachNumbered P n xs → P n x × EachNumbered P (suc n) rest
first_one P n xs rest x e each = subst (λ l. EachNumbered P n l) e each

module _ (store : Store) (place : ℕ) (left after : Dealing) (hand : WorkerHand) (deals : Deals hand left after) where
  hand_seat : AreLeft store place left → IsSeatFor store (suc place) hand.seat × EachNumbered (IsSeatFor store) (suc (suc place)) (into_iter_items after.seats)
  hand_seat is = first_one (IsSeatFor store) (suc place) (into_iter_items left.seats) (into_iter_items after.seats) hand.seat deals.seat is.seats

  hand_counts : AreLeft store place left → IsCountSeat store hand.counts × EachNumbered (λ w. IsCountSeat store) (suc place) (into_iter_items after.counts)
  hand_counts is = first_one (λ w. IsCountSeat store) place (into_iter_items left.counts) (into_iter_items after.counts) hand.counts deals.counts is.counts

  hand_gauges : AreLeft store place left → IsGaugeSeat store (suc place) hand.gauges × EachNumbered (IsGaugeSeat store) (suc (suc place)) (into_iter_items after.gauges)
  hand_gauges is = first_one (IsGaugeSeat store) (suc place) (into_iter_items left.gauges) (into_iter_items after.gauges) hand.gauges deals.gauges is.gauges

  hand_side : AreLeft store place left → IsSideFor store place hand.side × EachNumbered (IsSideFor store) (suc place) (into_iter_items after.sides)
  hand_side is = first_one (IsSideFor store) place (into_iter_items left.sides) (into_iter_items after.sides) hand.side deals.side is.sides

  -- what is dealt is the worker's
  is_hand : AreLeft store place left → IsHandFor store place hand
  is_hand is = record { seat = (hand_seat is).0; counts = (hand_counts is).0; gauges = (hand_gauges is).0; side = (hand_side is).0 }

  pub stays_left : AreLeft store place left → AreLeft store (suc place) after
  stays_left is = record { seats = (hand_seat is).1; counts = (hand_counts is).1; gauges = (hand_gauges is).1; sides = (hand_side is).1 }

  pub fewer_left : (more : ℕ) → HasLeft more left → HasLeft (more - 1) after
  fewer_left more has = record {
    seats = (let all = ap length deals.seat in let count = has.seats in let each = ap length deals.counts in let many = has.counts in omega (arith, all, count, each, many));
    counts = (let all = ap length deals.counts in let count = has.counts in omega (arith, all, count));
    gauges = (let all = ap length deals.gauges in let count = has.gauges in omega (arith, all, count));
    sides = (let all = ap length deals.side in let count = has.sides in omega (arith, all, count));
  }

  -- the seat and the recorder of a worker that the store has
  pub new_seat : AreLeft store place left → IsLegal (first_of store.book) → place < length store.cells.items → IsNewSeat (known_by hand.seat)
  new_seat is legal below = is_new_seat store place hand (is_hand is) legal (let workers = store.whole.cells in omega (arith, below, workers))

  pub new_worker : AreLeft store place left → IsLegal (first_of store.book) → place < length store.cells.items → IsNewWorker store (suc place) (recorder_of hand place)
  new_worker is legal below = is_new_worker store place hand (is_hand is) (new_seat is legal below)
