-- A new store that was dealt: its first and last seats are the flusher's and the reader's, and the others the workers'.
use Rattle.std.proofs.Common.{◌≡◌, ◌+◌, ◌<◌, ℕ, suc, List, [], ◌∷◌, length, map, refl, ap, sym, subst, ◌∙◌, arith}
use Rattle.std.specs.Vec.Iter.{into_iter_items}
use Rattle.std.proofs.lemmas.List.{length-map}
use Rattle.stat_defs.specs.declared.configs.Config.{Config}
use Rattle.stat_defs.specs.Books.{BookHistory}
use Rattle.seat_history.specs.declared.known.LogKnown.{LogKnown}
use Rattle.turn_cell.specs.Tokens.{cell_id}
use Rattle.metric_words.specs.declared.counter_seats.WorkerSeat.{WorkerSeat}
use Rattle.metric_words.specs.declared.gauge_seats.GaugeSeat.{GaugeSeat}
use Rattle.metric_words.specs.CounterLedger.{CounterKnown, flush_known, read_known}
use Rattle.metric_words.specs.GaugeLedger.{GaugeKnown, gauge_known}
use Rattle.stat_book.specs.Calls.{new_book}
use Rattle.book_lock.specs.Seats.{seat_lock}
use Rattle.locked_book.specs.declared.shared.LockedBook.{LockedBook}
use Rattle.locked_book.specs.Sharing.{first_of, known_by, part_of}
use Rattle.flush_cells.specs.Cells.{cell_of}
use Rattle.half_side.specs.Halves.{HalfKnown}
use Rattle.ledger.specs.Lists.{EachNumbered}
use Rattle.admin_side.specs.Reader.{ReaderKnown, new_reader}
use Rattle.flusher.specs.Flusher.{FlusherKnown}
use Rattle.store_opening.specs.declared.dealing.Dealing.{Dealing}
use Rattle.store_opening.specs.declared.making.Made.{Made}
use Rattle.store_opening.specs.declared.opening.Opened.{Opened}
use Rattle.store_opening.specs.Cells.{new_side}
use Rattle.store_opening.specs.Made.{IsMade}
use Rattle.store_opening.specs.Dealing.{IsSeatFor, IsCountSeat, IsGaugeSeat, IsSideFor, AreLeft, HasLeft, IsQueued}
use Rattle.store_opening.specs.Opening.{IsNewFlusher, IsNewReader, ArePartiesOf, Opens, flusher_of}
use Rattle.store_opening.proofs.NewWorkers.{first_one}
use Rattle.store_opening.proofs.NewParties.{seats_numbered, counts_new, levels_new, sides_placed, seat_number}

pub has_seats : (made : Made) → IsMade made → 0 < length made.seats.items
has_seats made is = let count = seat_number made.store (length made.store.cells.items + 2) made.seats.items is.seats in omega (arith, count)

module _ (made : Made) (is : IsMade made) (first : LockedBook) (left : Dealing)
    (queued : IsQueued made.seats.items made.counts.workers.items made.levels.workers.items made.sides.items first left) where
  first_and_rest : IsSeatFor made.store 0 first × EachNumbered (IsSeatFor made.store) 1 (into_iter_items left.seats)
  first_and_rest = first_one (IsSeatFor made.store) 0 made.seats.items (into_iter_items left.seats) first queued.seats_left (seats_numbered made.store (length made.store.cells.items + 2) made.seats.items is.seats)

  pub first_seat : IsSeatFor made.store 0 first
  first_seat = first_and_rest.0

  pub all_left : AreLeft made.store 0 left
  all_left = record {
    seats = first_and_rest.1;
    counts = subst (λ (l : List WorkerSeat). EachNumbered (λ w. IsCountSeat made.store) 0 l) (sym queued.counts_left) (counts_new made.store 0 (length made.store.cells.items) made.counts.workers.items is.counts.workers_new);
    gauges = subst (λ (l : List GaugeSeat). EachNumbered (IsGaugeSeat made.store) 1 l) (sym queued.gauges_left)
        (levels_new made.store 1 (length made.store.cells.items) (length made.store.cells.items) made.levels.workers.items is.levels.workers_new is.levels.workers_numbers);
    sides = subst (λ (l : List HalfKnown). EachNumbered (IsSideFor made.store) 0 l) (sym queued.sides_left) (sides_placed made.store made.sides.items is.cells.each_side);
  }

  pub has_left : HasLeft (length made.store.cells.items) left
  has_left = record {
    seats = (let count = seat_number made.store (length made.store.cells.items + 2) made.seats.items is.seats in let all = ap length queued.seats_left in omega (arith, count, all));
    counts = ap length queued.counts_left ∙ is.counts.workers_count;
    gauges = ap length queued.gauges_left ∙ is.levels.workers_count;
    sides = ap length queued.sides_left ∙ (ap length is.cells.each_side ∙ (let a = length-map (map cell_id made.store.cells.items) new_side in let b = length-map made.store.cells.items cell_id in omega (arith, a, b)));
  }

  pub nothing_made : (known_by first).made ≡ []
  nothing_made = ap (λ (k : LogKnown). k.made) first_seat.new

  pub token_for_each : length made.tokens.items ≡ (known_by first).workers
  token_for_each =
      let cells = ap length is.cells.same_cells in let a = length-map made.tokens.items cell_of in let b = length-map made.store.cells.items cell_id in
      let all = made.store.whole.cells in let workers = ap (λ (k : LogKnown). k.workers) first_seat.new in omega (arith, cells, a, b, all, workers)

  pub banks_sized : ((flush_known made.counts.flusher).own.workers ≡ length made.tokens.items) × ((gauge_known made.levels.flusher).own.workers ≡ length made.tokens.items)
  banks_sized =
      let cells = ap length is.cells.same_cells in let a = length-map made.tokens.items cell_of in let b = length-map made.store.cells.items cell_id in
      let counters = ap (λ (c : CounterKnown). c.own.workers) is.counts.flusher in let gauges = ap (λ (g : GaugeKnown). g.own.workers) is.levels.flusher in
      (omega (arith, cells, a, b, counters), omega (arith, cells, a, b, gauges))

  pub is_new_flusher : (k : FlusherKnown) → k ≡ flusher_of first made.counts.flusher made.levels.flusher made.tokens.items → IsNewFlusher made.store k
  is_new_flusher k made_so = subst (λ (f : FlusherKnown). IsNewFlusher made.store f) (sym made_so) (record {
    of = record {
      of = λ i. record {
        lock = first_seat.own i;
        counters = ap (λ (c : CounterKnown). c.bank) is.counts.flusher i;
        gauges = ap (λ (g : GaugeKnown). g.bank) is.levels.flusher i;
      };
      number = ap (λ (s : LogKnown). s.number) first_seat.new;
      cells = is.cells.same_cells;
    };
    gauges = ap (λ (g : GaugeKnown). g.own.seat) is.levels.flusher;
    flushes = refl;
    round = refl;
  })

-- the reader of the last seat
pub is_new_reader : (made : Made) → IsMade made → (last : LockedBook) (left : Dealing) (rest : List LockedBook) (k : ReaderKnown) → AreLeft made.store (length made.store.cells.items) left
    → into_iter_items left.seats ≡ last ∷ rest → k ≡ new_reader (seat_lock last.seat) (part_of last) (read_known made.counts.reader) (gauge_known made.levels.reader)
    → IsNewReader made.store ((first_of made.store.book).workers + 1) k
is_new_reader made is last left rest k are taken made_so =
    let seat = (first_one (IsSeatFor made.store) (suc (length made.store.cells.items)) (into_iter_items left.seats) rest last taken are.seats).0 in
    let sizes = made.store.whole.sizes in let a = sizes.0 in let b = sizes.1 in
    subst (λ (r : ReaderKnown). IsNewReader made.store ((first_of made.store.book).workers + 1) r) (sym made_so) (record {
      of = record {
        lock = seat.own;
        counters_bank = ap (λ (c : CounterKnown). c.bank) is.counts.reader;
        gauges_bank = ap (λ (g : GaugeKnown). g.bank) is.levels.reader;
        sizes = (omega (arith, a), omega (arith, b));
      };
      number = ap (λ (s : LogKnown). s.number) seat.new ∙ (let all = made.store.whole.cells in omega (arith, all));
      gauges = ap (λ (g : GaugeKnown). g.own.seat) is.levels.reader ∙ (let all = made.store.whole.cells in omega (arith, all));
      reads = refl;
    })

-- of a store whose book is a new one of this configuration
pub opens : (config : Config) (workers : ℕ) (opened : Opened) → first_of opened.store.book ≡ new_book config workers → ArePartiesOf opened → Opens config workers opened
opens config workers opened book parties =
    let count = ap (λ (b : BookHistory). b.workers) book in
    record {
      book = book;
      recorders = parties.recorders;
      count = parties.count ∙ count;
      flusher = parties.flusher;
      reader = subst (λ (n : ℕ). IsNewReader opened.store (n + 1) opened.admin) count parties.reader;
    }
