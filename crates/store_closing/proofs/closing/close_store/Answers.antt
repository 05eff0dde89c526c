use Rattle.std.proofs.Common.{◌≡◌, List, [], ◌∷◌, ◌++◌, length, map, refl, ap, sym, ◌∙◌, subst, arith, All}
use Rattle.std.specs.List.{flat_map}
use Rattle.std.proofs.lemmas.List.{length-map, map-append}
use Rattle.std.proofs.lemmas.Simd.{map-map}
use Rattle.atomic_table.specs.Seated.{TableId}
use Rattle.stat_defs.specs.Books.{BookHistory}
use Rattle.seat_history.specs.declared.known.LogKnown.{LogKnown}
use Rattle.locked_book.specs.declared.shared.LockedBook.{LockedBook}
use Rattle.book_lock.specs.History.{IsOneHistory}
use Rattle.locked_book.specs.Sharing.{AreAllSeats, known_by, first_of, seat_count}
use Rattle.metric_words.specs.declared.counter_seats.WorkerSeat.{WorkerSeat}
use Rattle.metric_words.specs.declared.counter_view.CountPart.{CountPart}
use Rattle.metric_words.specs.declared.gauge_seats.GaugeSeat.{GaugeSeat}
use Rattle.metric_words.specs.CounterLedger.{CounterKnown, worker_part, worker_known, flush_known, bank_id}
use Rattle.metric_words.specs.Gauges.{written}
use Rattle.metric_words.specs.GaugeLedger.{GaugeKnown, gauge_known, gauge_part, gauge_all, gauges_id}
use Rattle.merge_round.specs.Rounds.{ParentsState}
use Rattle.flush_cells.specs.declared.tokens.FlushCell.{FlushCell}
use Rattle.flush_cells.specs.Cells.{cell_of}
use Rattle.turn_cell.specs.Tokens.{cell_id}
use Rattle.cells_end.specs.declared.end.CellEnd.{CellEnd}
use Rattle.cells_end.specs.Ends.{AreEnds}
use Rattle.cells_end.specs.LastRound.{IsLastRound, halves_at_end}
use Rattle.store_parts.specs.Ids.{StoreIds, ids_of, lock_of}
use Rattle.recorder.specs.declared.ended.Ended.{Ended}
use Rattle.store_closing.specs.Pieces.{EndsCounters, seats_at_end, counts_at_end, gauges_at_end}
use Rattle.store_closing.proofs.Gathered.{seats_gathered, counts_gathered, gauges_gathered, last_known, others_are, others_count, cells_gathered, halves_same}
use Rattle.store_closing.proofs.Composing.{closes}
use Rattle.stat_defs.specs.Changes.{GoesOnLater}
use Rattle.stat_defs.specs.declared.history.Entry.{Entry}
use Rattle.stat_defs.specs.declared.history.NameOp.{NameOp}
use Rattle.seat_history.specs.History.{with_log}
use Rattle.stat_book.specs.NameChanges.{changes_of}
use Rattle.book_lock.specs.declared.view.LockPart.{LockPart}
use Rattle.store_closing.proofs.closing.close_store.Goals as goal

pub close_book-requires : goal.close_book-requires
close_book-requires c =
    let store = c.args.store in let have = c.requires.workers in let own = c.into_parts-own in
    let of : lock_of own.result.seat ≡ (ids_of store).lock = ap (λ (i : StoreIds). i.lock) (own.ensures.of ∙ c.requires.flusher.0.of) in
    let reader = c.into_seats-reader_seat.ensures.seat.1 ∙ c.requires.reader.lock in
    subst (λ (l : List LockedBook). AreAllSeats store.book l) (sym c.in_ok-sorted.ensures.seats)
    (seats_gathered store c.args.ended.items have own.result.seat c.into_seats-reader_seat.result.0 of reader)

pub last_deltas-requires-clause-all : goal.last_deltas-requires-clause-all
last_deltas-requires-clause-all c =
    let store = c.args.store in let have = c.requires.workers in let own = c.into_parts-own in let sorted = c.in_ok-sorted.ensures in record {
      count = (
          let a = ap (λ (l : List WorkerSeat). length l) sorted.counts in
          let b = length-map c.args.ended.items (λ (e : Ended). e.counts) in
          let d = have.all in
          let e = ap (λ (k : CounterKnown). length k.taken) own.ensures.words.0 in
          let f = ap (λ (l : List CountPart). length l) own.ensures.accounts.alone.1 in
          let g = store.whole.workers.0 in
          omega (arith, a, b, d, e, f, g));
      workers_bank = subst (λ (l : List WorkerSeat). All (λ (w : WorkerSeat). (worker_known w).bank ≡ bank_id store.counters) l) (sym sorted.counts) (counts_gathered store c.args.ended.items have);
      flusher_bank = ap (λ (i : StoreIds). i.counters) (own.ensures.of ∙ c.requires.flusher.0.of);
      reader_bank = ap (λ (k : CounterKnown). k.bank) c.into_seats-reader_seat.ensures.words.0 ∙ c.requires.reader.counters_bank;
    }

pub last_deltas-requires-clause-flusher : goal.last_deltas-requires-clause-flusher
last_deltas-requires-clause-flusher c =
    let store = c.args.store in let own = c.into_parts-own in
    let a : (flush_known own.result.counters).own.workers ≡ length c.args.flusher.tokens = ap (λ (k : CounterKnown). k.own.workers) own.ensures.words.0 ∙ own.ensures.accounts.sized.0 in
    let b = length-map c.args.flusher.tokens cell_of in
    let d = length-map store.cells.items cell_id in
    let e = ap (λ (l : List TableId). length l) c.requires.flusher.0.cells in
    let f = store.whole.cells in
    let g = store.whole.workers.0 in
    (omega (arith, a, b, d, e, f, g), ap (λ (k : CounterKnown). k.taken) own.ensures.words.0 ∙ own.ensures.accounts.alone.1)

pub last_readings-requires-clause-others : goal.last_readings-requires-clause-others
last_readings-requires-clause-others c =
    let store = c.args.store in
    let reader = c.into_seats-reader_seat.result.1.gauges in
    let bank = ap (λ (k : GaugeKnown). k.bank) c.into_seats-reader_seat.ensures.words.1 ∙ c.requires.reader.gauges_bank in
    subst (λ (l : List GaugeSeat). All (λ (s : GaugeSeat). (gauge_known s).bank ≡ gauges_id store.gauges) l) (sym c.in_ok-sorted.ensures.gauges)
    (gauges_gathered store c.args.ended.items c.requires.workers reader bank)

pub last_readings-requires-clause-whole : goal.last_readings-requires-clause-whole
last_readings-requires-clause-whole c =
    let store = c.args.store in let own = c.into_parts-own in
    let reader = c.into_seats-reader_seat.result.1.gauges in
    let none = ap (λ (k : GaugeKnown). k.taken) c.into_seats-reader_seat.ensures.words.1 ∙ c.into_seats-reader_seat.ensures.accounts.alone in
    let a = ap (λ (l : List GaugeSeat). length (flat_map gauge_all l)) c.in_ok-sorted.ensures.gauges ∙ others_count store c.args.ended.items reader c.requires.workers none in
    let w : (gauge_known own.result.gauges).own.workers ≡ length c.args.flusher.tokens = ap (λ (k : GaugeKnown). k.own.workers) own.ensures.words.1 ∙ own.ensures.accounts.sized.1 in
    let b = length-map c.args.flusher.tokens cell_of in
    let d = length-map store.cells.items cell_id in
    let e = ap (λ (l : List TableId). length l) c.requires.flusher.0.cells in
    let f = store.whole.cells in
    omega (arith, a, w, b, d, e, f)

pub end_cells-requires : goal.end_cells-requires
end_cells-requires c =
    let own = c.into_parts-own in
    subst (λ (l : List CellEnd). AreEnds own.result.cells.tokens.items l) (sym c.in_ok-sorted.ensures.ends)
    (cells_gathered c.args.store c.args.ended.items own.result.cells.tokens.items c.requires.workers (ap (λ (l : List FlushCell). map cell_of l) own.ensures.cells.0 ∙ c.requires.flusher.0.cells))

pub returns : goal.returns
returns c =
    let store = c.args.store in let ended = c.args.ended.items in let have = c.requires.workers in let own = c.into_parts-own in let own_told = own.ensures in
    let reader = c.into_seats-reader_seat in let sorted = c.in_ok-sorted.ensures in let end = c.in_ok-end.end in let book = c.in_ok-end.ensures.ends in
    let deltas = c.in_ok-deltas.deltas.items in let words = c.in_ok-words.words.items in let parts = c.in_ok-parts.parts.items in
    let seats : map known_by c.in_ok-sorted.sorted.seats.items ≡ seats_at_end c.args.flusher.seat ended c.args.admin.part.seat =
    ap (λ (l : List LockedBook). map known_by l) sorted.seats
    ∙ ap (λ (l : List LogKnown). known_by own.result.seat ∷ l) (map-append known_by (map (λ (e : Ended). e.seat) ended) (reader.result.0 ∷ []) ∙ ap (λ (l : List LogKnown). l ++ known_by reader.result.0 ∷ []) (map-map known_by (λ (e : Ended). e.seat) ended))
    ∙ (λ i. own_told.seat i ∷ (map (λ (e : Ended). known_by e.seat) ended ++ (reader.ensures.seat.0 i).seat ∷ [])) in
    let known : GoesOnLater c.args.admin.part.names (changes_of (with_log book.last.last.log (first_of store.book))) =
    subst (λ (l : List Entry). GoesOnLater c.args.admin.part.names (changes_of (with_log l (first_of store.book)))) book.last.log
    (subst (λ (n : List NameOp). GoesOnLater n (changes_of (with_log end.log (first_of store.book)))) (ap (λ (p : LockPart). p.names) reader.ensures.seat.0)
    (last_known (changes_of (with_log end.log (first_of store.book))) own.result.seat (map (λ (e : Ended). e.seat) ended) reader.result.0 c.in_ok-sorted.sorted.seats.items sorted.seats c.in_ok-end.ensures.changes)) in
    let counts : map worker_part c.in_ok-sorted.sorted.counts.items ≡ counts_at_end ended = ap (λ (l : List WorkerSeat). map worker_part l) sorted.counts ∙ map-map worker_part (λ (e : Ended). e.counts) ended in
    let none = ap (λ (k : GaugeKnown). k.taken) reader.ensures.words.1 ∙ reader.ensures.accounts.alone in
    let others = ap (λ (l : List GaugeSeat). flat_map gauge_all l) sorted.gauges ∙ others_are store ended reader.result.1.gauges have none in
    let left = rw c.in_ok-words.was at (c.last_readings.ensures.words (gauges_at_end ended) (gauge_part reader.result.1.gauges) others
    (λ id. ap (λ (k : GaugeKnown). written id k.own.steps) own_told.words.1 ∙ own_told.accounts.idle id)
    (λ id. ap (λ (k : GaugeKnown). written id k.own.steps) reader.ensures.words.1 ∙ reader.ensures.accounts.idle id)) in
    closes store ended c.args.flusher c.args.admin book.found end.listing (record { at = end.listing.at; deltas = deltas; gauges = words; parts = parts }) c.in_ok-sorted.sorted.ends.items
    have c.requires.flusher.1 c.requires.flusher.0.number own_told.accounts reader.ensures.accounts (ap (λ (h : BookHistory). h.log) store.whole.new)
    (subst (λ (l : List LogKnown). IsOneHistory (first_of store.book) (seat_count store.book) l book.found) seats book.one)
    book.last.last book.last.sweeps book.last.legal known
    refl (c.in_ok-deltas.ensures.ids ∙ (c.items.ensures ∙ book.last.made))
    (subst (λ (l : List CountPart). EndsCounters l c.args.flusher.counters c.args.admin.counters deltas) counts
    (subst (λ (k : CounterKnown). EndsCounters (map worker_part c.in_ok-sorted.sorted.counts.items) k c.args.admin.counters deltas) own_told.words.0
    (subst (λ (k : CounterKnown). EndsCounters (map worker_part c.in_ok-sorted.sorted.counts.items) (flush_known own.result.counters) k deltas) reader.ensures.words.0 c.in_ok-deltas.ensures.ends)))
    (c.in_ok-words.ensures.ids ∙ c.items-2.ensures) left
    (ap (λ (l : List CellEnd). map halves_at_end l) sorted.ends ∙ halves_same store.cells.items ended (let a = have.all in let b = store.whole.cells in omega (arith, a, b)))
    (subst (λ (p : ParentsState). IsLastRound c.args.flusher.tokens p c.in_ok-sorted.sorted.ends.items parts) own_told.cells.1
    (subst (λ (l : List FlushCell). IsLastRound l own.result.cells.parents c.in_ok-sorted.sorted.ends.items parts) own_told.cells.0 c.in_ok-parts.ensures))
    _ (λ i. record { last = record { at = end.listing.at; deltas = c.of.ensures i; gauges = c.of-2.ensures i; parts = c.of-3.ensures i }; log = book.last.log i; names = book.last.names i })
