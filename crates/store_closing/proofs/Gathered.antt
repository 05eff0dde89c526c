-- What the parties of a store left is of that store.
use Rattle.std.proofs.Common.{◌≡◌, ◌+◌, ℕ, suc, zero, List, [], ◌∷◌, ◌++◌, map, length, slice_get, refl, ap, sym, ◌∙◌, subst, arith, append_assoc}
use Rattle.std.specs.Prelude.{All}
use Rattle.std.specs.List.{AllByRecursion, flat_map}
use Rattle.std.specs.Option.{IsSomeAnd}
use Rattle.std.proofs.lemmas.List.{length-map, length-append}
use Rattle.std.proofs.lemmas.List.Elements.{All-nil, All-cons, All-head, All-tail, All-append, All-from_recursion}
use Rattle.atomic_table.specs.Seated.{TableId}
use Rattle.stat_defs.specs.Changes.{GoesOnLater}
use Rattle.stat_defs.specs.declared.history.NameOp.{NameOp}
use Rattle.merge_round.specs.Halves.{HalfState}
use Rattle.turn_cell.specs.declared.cell.TurnCell.{TurnCell}
use Rattle.turn_cell.specs.Tokens.{cell_id, note_known}
use Rattle.locked_book.specs.declared.shared.LockedBook.{LockedBook}
use Rattle.locked_book.specs.Sharing.{IsSeatOf, first_of, names_by, AreAllSeats}
use Rattle.metric_words.specs.declared.counter_seats.WorkerSeat.{WorkerSeat}
use Rattle.metric_words.specs.declared.gauge_seats.GaugeSeat.{GaugeSeat}
use Rattle.metric_words.specs.declared.gauge_view.GaugePart.{GaugePart}
use Rattle.metric_words.specs.CounterLedger.{bank_id, worker_known}
use Rattle.metric_words.specs.GaugeLedger.{gauges_id, gauge_known, gauge_part, gauge_all}
use Rattle.flush_cells.specs.declared.tokens.FlushCell.{FlushCell}
use Rattle.flush_cells.specs.Cells.{cell_of}
use Rattle.flush_cells.specs.Taken.{HalfValues}
use Rattle.cells_end.specs.Ends.{IsEnd, AreEnds}
use Rattle.cells_end.specs.LastRound.{halves_at_end}
use Rattle.ledger.specs.Lists.{EachNumbered}
use Rattle.ledger.proofs.Members.{all_mapped, each_of}
use Rattle.store_parts.specs.declared.store.Store.{Store}
use Rattle.store_parts.specs.Ids.{StoreIds, ids_of, lock_of}
use Rattle.recorder.specs.declared.ended.Ended.{Ended}
use Rattle.recorder.specs.Ending.{told_at_end}
use Rattle.recorder.specs.Tied.{HasEnded}
use Rattle.store_closing.specs.Closes.{HaveEnded}
use Rattle.store_closing.specs.Pieces.{gauges_at_end}
use Rattle.store_closing.specs.Sorting.{end_of, ends_of}

all_of : {X : Type 0} (P : X → Type 0) (store : Store) (f : Ended → X) (ended : List Ended) → HaveEnded store ended → ((w : ℕ) (e : Ended) → HasEnded store w e → P (f e)) → AllByRecursion P (map f ended)
all_of P store f ended have g = all_mapped f P ended (each_of (HasEnded store) (λ e. P (f e)) 1 ended g have.each)

module _ (store : Store) (ended : List Ended) (have : HaveEnded store ended) where
  -- the seats of the book
  pub seats_gathered : (own reader : LockedBook) → lock_of own ≡ (ids_of store).lock → lock_of reader ≡ (ids_of store).lock
      → AreAllSeats store.book (own ∷ (map (λ (e : Ended). e.seat) ended ++ reader ∷ []))
  seats_gathered own reader is_own is_reader = record {
    own = All-cons (IsSeatOf store.book) own (map (λ (e : Ended). e.seat) ended ++ reader ∷ []) is_own
        (All-append (IsSeatOf store.book) (map (λ (e : Ended). e.seat) ended) (reader ∷ [])
        (All-from_recursion (IsSeatOf store.book) (map (λ (e : Ended). e.seat) ended) (all_of (IsSeatOf store.book) store (λ e. e.seat) ended have (λ w e has. ap (λ (i : StoreIds). i.lock) has.of)))
        (All-cons (IsSeatOf store.book) reader [] is_reader (All-nil (IsSeatOf store.book))));
    all =
        (let a = length-append (map (λ (e : Ended). e.seat) ended) (reader ∷ []) in
        let b = length-map ended (λ (e : Ended). e.seat) in
        let c = have.all in
        let d = store.whole.seats in
        omega (arith, a, b, c, d));
  }

  -- the seats of the counters, and of the gauges
  pub counts_gathered : All (λ (w : WorkerSeat). (worker_known w).bank ≡ bank_id store.counters) (map (λ (e : Ended). e.counts) ended)
  counts_gathered =
      All-from_recursion (λ (w : WorkerSeat). (worker_known w).bank ≡ bank_id store.counters) (map (λ (e : Ended). e.counts) ended)
      (all_of (λ (w : WorkerSeat). (worker_known w).bank ≡ bank_id store.counters) store (λ e. e.counts) ended have (λ w e has. ap (λ (i : StoreIds). i.counters) has.of))

  pub gauges_gathered : (reader : GaugeSeat) → (gauge_known reader).bank ≡ gauges_id store.gauges
      → All (λ (s : GaugeSeat). (gauge_known s).bank ≡ gauges_id store.gauges) (map (λ (e : Ended). e.gauges) ended ++ reader ∷ [])
  gauges_gathered reader is_reader =
      All-append (λ (s : GaugeSeat). (gauge_known s).bank ≡ gauges_id store.gauges) (map (λ (e : Ended). e.gauges) ended) (reader ∷ [])
      (All-from_recursion (λ (s : GaugeSeat). (gauge_known s).bank ≡ gauges_id store.gauges) (map (λ (e : Ended). e.gauges) ended)
      (all_of (λ (s : GaugeSeat). (gauge_known s).bank ≡ gauges_id store.gauges) store (λ e. e.gauges) ended have (λ w e has. ap (λ (i : StoreIds). i.gauges) has.of)))
      (All-cons (λ (s : GaugeSeat). (gauge_known s).bank ≡ gauges_id store.gauges) reader [] is_reader (All-nil (λ (s : GaugeSeat). (gauge_known s).bank ≡ gauges_id store.gauges)))

-- each seat of the gauges has taken in no other
gauges_alone : (store : Store) (n : ℕ) (ended : List Ended) (reader : GaugeSeat) → EachNumbered (HasEnded store) n ended → (gauge_known reader).taken ≡ []
    → flat_map gauge_all (map (λ (e : Ended). e.gauges) ended ++ reader ∷ []) ≡ gauges_at_end ended ++ gauge_part reader ∷ []
gauges_alone store n [] reader each none = ap (λ (l : List GaugePart). gauge_part reader ∷ (l ++ [])) none
gauges_alone store n (e ∷ ended) reader each none = λ i. (gauge_part e.gauges ∷ each.0.alone i) ++ gauges_alone store (suc n) ended reader each.1 none i

pub others_are : (store : Store) (ended : List Ended) (reader : GaugeSeat) → HaveEnded store ended → (gauge_known reader).taken ≡ []
    → flat_map gauge_all (map (λ (e : Ended). e.gauges) ended ++ reader ∷ []) ≡ gauges_at_end ended ++ gauge_part reader ∷ []
others_are store ended reader have none = gauges_alone store 1 ended reader have.each none

pub others_count : (store : Store) (ended : List Ended) (reader : GaugeSeat) → HaveEnded store ended → (gauge_known reader).taken ≡ []
    → length (flat_map gauge_all (map (λ (e : Ended). e.gauges) ended ++ reader ∷ [])) ≡ (first_of store.book).workers + 1
others_count store ended reader have none =
    let a = ap (λ (l : List GaugePart). length l) (others_are store ended reader have none) in
    let b = length-append (gauges_at_end ended) (gauge_part reader ∷ []) in
    let c = length-map ended (λ (e : Ended). gauge_part e.gauges) in
    let d = have.all in
    omega (arith, a, b, c, d)

-- what is left in the cells
some_here : (P : TurnCell HalfState → Type 0) (front back : List (TurnCell HalfState)) (c : TurnCell HalfState) (n : ℕ) → n ≡ length front → IsSomeAnd (slice_get (front ++ c ∷ back) n) P → P c
some_here P [] back c zero at is = is
some_here P [] back c (suc n) at is = absurd (omega (arith, at))
some_here P (x ∷ front) back c zero at is = absurd (omega (arith, at))
some_here P (x ∷ front) back c (suc n) at is = some_here P front back c n (omega (arith, at)) is

one_end : (store : Store) (front back : List (TurnCell HalfState)) (cell : TurnCell HalfState) (token : FlushCell) (w : ℕ) (e : Ended) → store.cells.items ≡ front ++ cell ∷ back → w ≡ length front + 1
    → cell_of token ≡ cell_id cell → HasEnded store w e → IsEnd token (end_of cell e)
one_end store front back cell token w e whole at same has = record {
  left = sym (some_here (λ c. cell_id c ≡ (note_known e.note).cell) front back cell has.place (let a = has.at in omega (arith, a, at))
      (subst (λ (l : List (TurnCell HalfState)). IsSomeAnd (slice_get l has.place) (λ c. cell_id c ≡ (note_known e.note).cell)) whole has.cell));
  taken = same;
  few = (let most = has.few in omega (arith, most));
}

all_ends : (store : Store) (n : ℕ) (front cells : List (TurnCell HalfState)) (tokens : List FlushCell) (ended : List Ended) → store.cells.items ≡ front ++ cells → n ≡ length front + 1
    → map cell_of tokens ≡ map cell_id cells → length ended ≡ length cells → EachNumbered (HasEnded store) n ended → AreEnds tokens (ends_of cells ended)
all_ends store n front [] [] [] whole at same count each = tt
all_ends store n front [] [] (e ∷ ended) whole at same count each = absurd (omega (arith, count))
all_ends store n front [] (t ∷ tokens) ended whole at same count each = absurd (let a = ap (λ (l : List TableId). length l) same in omega (arith, a))
all_ends store n front (c ∷ cells) [] ended whole at same count each = absurd (let a = ap (λ (l : List TableId). length l) same in omega (arith, a))
all_ends store n front (c ∷ cells) (t ∷ tokens) [] whole at same count each = absurd (omega (arith, count))
all_ends store n front (c ∷ cells) (t ∷ tokens) (e ∷ ended) whole at same count each = (
  one_end store front cells c t n e whole at (first_same same) each.0,
  all_ends store (suc n) (front ++ c ∷ []) cells tokens ended (whole ∙ sym (append_assoc front (c ∷ []) cells)) (let a = length-append front (c ∷ []) in omega (arith, at, a)) (rest_same same) (omega (arith, count)) each.1,
)
  where
    first_same : ◌≡◌ {A = List TableId} (cell_of t ∷ map cell_of tokens) (cell_id c ∷ map cell_id cells) → cell_of t ≡ cell_id c
    first_same e = ap (λ (l : List TableId). first_or_it (cell_of t) l) e
      where
        first_or_it : TableId → List TableId → TableId
        first_or_it d [] = d
        first_or_it d (x ∷ xs) = x

    rest_same : ◌≡◌ {A = List TableId} (cell_of t ∷ map cell_of tokens) (cell_id c ∷ map cell_id cells) → map cell_of tokens ≡ map cell_id cells
    rest_same e = ap (λ (l : List TableId). tail_of l) e
      where
        tail_of : List TableId → List TableId
        tail_of [] = []
        tail_of (x ∷ xs) = xs

pub cells_gathered : (store : Store) (ended : List Ended) (tokens : List FlushCell) → HaveEnded store ended → map cell_of tokens ≡ map cell_id store.cells.items → AreEnds tokens (ends_of store.cells.items ended)
cells_gathered store ended tokens have same =
    all_ends store 1 [] store.cells.items tokens ended refl refl same (let a = have.all in let b = store.whole.cells in omega (arith, a, b)) have.each

-- the halves of each worker, by what is left in its cell
pub halves_same : (cells : List (TurnCell HalfState)) (ended : List Ended) → length ended ≡ length cells
    → map halves_at_end (ends_of cells ended) ≡ map (λ (e : Ended). (told_at_end e).turned ++ (told_at_end e).active ∷ []) ended
halves_same [] [] same = refl
halves_same [] (e ∷ ended) same = absurd (omega (arith, same))
halves_same (c ∷ cells) [] same = absurd (omega (arith, same))
halves_same (c ∷ cells) (e ∷ ended) same = ap (λ (l : List HalfValues). ((told_at_end e).turned ++ (told_at_end e).active ∷ []) ∷ l) (halves_same cells ended (omega (arith, same)))

-- what is known of the changes that each seat knew, at the last seat
pub last_known : (all : List NameOp) (first : LockedBook) (between : List LockedBook) (last : LockedBook) (seats : List LockedBook) → seats ≡ first ∷ (between ++ last ∷ [])
    → All (λ names. GoesOnLater names all) (map names_by seats) → GoesOnLater (names_by last) all
last_known all first between last seats is known =
    at_end between (All-tail (λ names. GoesOnLater names all) (names_by first) (map names_by (between ++ last ∷ [])) (subst (λ (l : List LockedBook). All (λ names. GoesOnLater names all) (map names_by l)) is known)) where
      at_end : (xs : List LockedBook) → All (λ names. GoesOnLater names all) (map names_by (xs ++ last ∷ [])) → GoesOnLater (names_by last) all
      at_end [] k = All-head (λ names. GoesOnLater names all) (names_by last) [] k
      at_end (x ∷ xs) k = at_end xs (All-tail (λ names. GoesOnLater names all) (names_by x) (map names_by (xs ++ last ∷ [])) k)
