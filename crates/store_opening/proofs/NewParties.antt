-- What a new store has is what its parties need.
use Rattle.std.proofs.Common.{◌≡◌, ◌+◌, ℕ, zero, suc, List, [], ◌∷◌, length, map, All, slice_get, Some, refl, ap, sym, subst, add-one, arith}
use Rattle.std.specs.Option.{IsSomeAnd}
use Rattle.std.specs.Prelude.{Option}
use Rattle.std.specs.List.{range_with_len}
use Rattle.std.proofs.lemmas.List.{length-map}
use Rattle.std.proofs.lemmas.List.Elements.{All-head, All-tail}
use Rattle.stat_defs.specs.Books.{BookHistory}
use Rattle.seat_history.specs.History.{new_known}
use Rattle.merge_round.specs.Halves.{HalfState}
use Rattle.turn_cell.specs.declared.cell.TurnCell.{TurnCell}
use Rattle.turn_cell.specs.Tokens.{cell_id}
use Rattle.metric_words.specs.declared.counter_seats.WorkerSeat.{WorkerSeat}
use Rattle.metric_words.specs.declared.gauge_seats.GaugeSeat.{GaugeSeat}
use Rattle.metric_words.specs.CounterLedger.{CounterKnown, bank_id, IsNewWorker}
use Rattle.metric_words.specs.GaugeLedger.{GaugeKnown, gauges_id, gauge_part, IsNewGauge}
use Rattle.locked_book.specs.declared.shared.LockedBook.{LockedBook}
use Rattle.locked_book.specs.Sharing.{first_of, known_by, new_seats, IsSeatOf, AreNewSeats}
use Rattle.half_side.specs.Halves.{HalfKnown}
use Rattle.ledger.specs.Lists.{EachNumbered}
use Rattle.ledger.proofs.Lists.{nil_cons, head_same, tail_same}
use Rattle.store_parts.specs.declared.store.Store.{Store}
use Rattle.store_opening.specs.Cells.{new_side}
use Rattle.store_opening.specs.Dealing.{IsSeatFor, IsCountSeat, IsGaugeSeat, IsSideFor}

module _ (store : Store) where
  seats_from : (n count : ℕ) (seats : List LockedBook) → All (IsSeatOf store.book) seats → map known_by seats ≡ new_seats (first_of store.book) n count → EachNumbered (IsSeatFor store) n seats
  seats_from n count [] own known = tt
  seats_from n zero (seat ∷ seats) own known = absurd (nil_cons (known_by seat) (map known_by seats) (sym known))
  seats_from n (suc count) (seat ∷ seats) own known = (
    record { own = All-head (IsSeatOf store.book) seat seats own; new = head_same (known_by seat) (new_known (first_of store.book) n) (map known_by seats) (new_seats (first_of store.book) (suc n) count) known },
    seats_from (suc n) count seats (All-tail (IsSeatOf store.book) seat seats own) (tail_same (known_by seat) (new_known (first_of store.book) n) (map known_by seats) (new_seats (first_of store.book) (suc n) count) known),
  )

  -- the seats of the book have their numbers
  pub seats_numbered : (count : ℕ) (seats : List LockedBook) → AreNewSeats store.book count seats → EachNumbered (IsSeatFor store) 0 seats
  seats_numbered count seats new = seats_from 0 count seats new.own new.known

  pub counts_new : (n workers : ℕ) (seats : List WorkerSeat) → All (IsNewWorker (bank_id store.counters) workers) seats → EachNumbered (λ w. IsCountSeat store) n seats
  counts_new n workers [] all = tt
  counts_new n workers (seat ∷ seats) all =
      let new = All-head (IsNewWorker (bank_id store.counters) workers) seat seats all in (
        record { own = ap (λ (k : CounterKnown). k.bank) new; new = ap (λ (k : CounterKnown). k.own.steps) new },
        counts_new (suc n) workers seats (All-tail (IsNewWorker (bank_id store.counters) workers) seat seats all),
      )

  pub levels_new : (n count workers : ℕ) (seats : List GaugeSeat) → All (IsNewGauge (gauges_id store.gauges) workers) seats
      → map (λ w. (gauge_part w).seat) seats ≡ range_with_len n count → EachNumbered (IsGaugeSeat store) n seats
  levels_new n count workers [] all numbers = tt
  levels_new n zero workers (seat ∷ seats) all numbers = absurd (nil_cons (gauge_part seat).seat (map (λ w. (gauge_part w).seat) seats) (sym numbers))
  levels_new n (suc count) workers (seat ∷ seats) all numbers =
      let new = All-head (IsNewGauge (gauges_id store.gauges) workers) seat seats all in
      let rest = map (λ w. (gauge_part w).seat) seats in (
        record {
          own = ap (λ (k : GaugeKnown). k.bank) new;
          is = head_same (gauge_part seat).seat n rest (range_with_len (n + 1) count) numbers;
          new = ap (λ (k : GaugeKnown). k.own.steps) new;
          alone = ap (λ (k : GaugeKnown). k.taken) new;
        },
        levels_new (suc n) count workers seats (All-tail (IsNewGauge (gauges_id store.gauges) workers) seat seats all)
            (subst (λ (k : ℕ). rest ≡ range_with_len k count) (add-one n) (tail_same (gauge_part seat).seat n rest (range_with_len (n + 1) count) numbers)),
      )

  sides_from : (k : ℕ) (rest : List (TurnCell HalfState)) → ((i : ℕ) → slice_get store.cells.items (k + i) ≡ slice_get rest i) → EachNumbered (IsSideFor store) k (map new_side (map cell_id rest))
  sides_from k [] same = tt
  sides_from k (cell ∷ rest) same = (
    record {
      own = subst (λ (o : Option (TurnCell HalfState)). IsSomeAnd o (λ c. cell_id c ≡ cell_id cell)) (sym (subst (λ (n : ℕ). slice_get store.cells.items n ≡ Some cell) (omega arith) (same 0))) refl;
      new = refl;
    },
    sides_from (suc k) rest (λ i. subst (λ (n : ℕ). slice_get store.cells.items n ≡ slice_get rest i) (omega arith) (same (suc i))),
  )

  -- each side has the cell at its place
  pub sides_placed : (sides : List HalfKnown) → sides ≡ map new_side (map cell_id store.cells.items) → EachNumbered (IsSideFor store) 0 sides
  sides_placed sides new = subst (λ (l : List HalfKnown). EachNumbered (IsSideFor store) 0 l) (sym new)
      (sides_from 0 store.cells.items (λ i. subst (λ (n : ℕ). slice_get store.cells.items n ≡ slice_get store.cells.items i) (omega arith) refl))

length_new_seats : (first : BookHistory) (n count : ℕ) → length (new_seats first n count) ≡ count
length_new_seats first n zero = refl
length_new_seats first n (suc count) = let rest = length_new_seats first (suc n) count in omega (arith, rest)

pub seat_number : (store : Store) (count : ℕ) (seats : List LockedBook) → AreNewSeats store.book count seats → length seats ≡ count
seat_number store count seats new =
    let known = ap length new.known in let all = length_new_seats (first_of store.book) 0 count in let same = length-map seats known_by in omega (arith, known, all, same)
