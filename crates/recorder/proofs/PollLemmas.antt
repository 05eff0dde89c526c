-- A recorder after a poll.
use Rattle.std.proofs.Common.{◌≡◌, ℕ, ◌+◌, ◌<◌, ◌≤◌, Bool, true, false, Some, List, [], ◌∷◌, length, slice_get, refl, ap, sym, ◌∙◌, subst, arith}
use Rattle.std.proofs.lemmas.List.{map-append}
use Rattle.seat_parts.proofs.Sums.{total-append}
use Rattle.stat_defs.specs.declared.history.Call.TheVariants as call
use Rattle.stat_defs.specs.declared.history.Reply.TheVariants as reply
use Rattle.book_state.specs.Follows.{Own}
use Rattle.book_state.proofs.Lists.{within_some, some_at}
use Rattle.book_access.specs.Calling.{opened}
use Rattle.book_access.specs.Making.{LogsCall}
use Rattle.book_seat.specs.Polling.{Ends}
use Rattle.book_seat.proofs.PartLemmas.{one_grows}
use Rattle.metric_words.specs.CounterLedger.{worker_part}
use Rattle.metric_words.specs.GaugeLedger.{gauge_known, gauge_part}
use Rattle.turn_cell.specs.declared.cell.TurnCell.{TurnCell}
use Rattle.turn_cell.specs.declared.view.TurnKind.TheVariants.{Leave}
use Rattle.turn_cell.specs.Tokens.{cell_id, after_step}
use Rattle.store_parts.specs.declared.store.Store.{Store}
use Rattle.locked_book.specs.declared.shared.LockedBook.{LockedBook}
use Rattle.locked_book.specs.Sharing.{known_by}
use Rattle.merge_round.specs.Halves.{HalfState}
use Rattle.half_side.specs.Halves.{HalfKnown, LooksAndTurns, values_of, turned_in, value_count}
use Rattle.run_ledger.specs.Accounts.{DidItsWork}
use Rattle.run_ledger.specs.Grows.{Turns}
use Rattle.run_ledger.proofs.Grows.{run_grows}
use Rattle.store_parts.specs.Ids.{lock_of}
use Rattle.recorder.specs.declared.recorder.Recorder.TheInside.{Inside}
use Rattle.recorder.specs.declared.ended.Ended.{Ended}
use Rattle.recorder.specs.Knowing.{RecorderKnown, told_by, HasItsCell}
use Rattle.recorder.specs.Ending.{LeavesHand, EndsIts, store_of, side_of, told_at_end}
use Rattle.recorder.specs.RecorderKept.{shown, IsKept, AddsToMade}
use Rattle.recorder.proofs.RecorderLemmas.{same_work}
use Rattle.recorder.proofs.SeatMoves.{SeatMoves, counters_grow}
use Rattle.recorder.proofs.UnitLemmas.{still_added}

-- a poll makes no value more
pub polled_count : (turned : Bool) (k k' : HalfKnown) → LooksAndTurns turned k k' → value_count k' ≤ value_count k
polled_count true k k' (spare, none, is) =
    let all = ap value_count is in
    let more = total-append (λ (half : HalfState). length half.values) k.cell.halves (k.active ∷ []) in
    let empty = ap (λ (l : List (ℕ × ℕ)). length l) none in
    omega (arith, all, more, empty)
polled_count false k k' (word, not, is) = let all = ap value_count is in omega (arith, all)

abbrev pub polled : Inside → LockedBook → HalfKnown → Inside
polled r s side = record r { seat = s; hand = record r.hand { side = side } }

-- a half that was turned
pub turned_told : (r : Inside) (s : LockedBook) (side : HalfKnown) → LooksAndTurns true r.hand.side side → Turns (told_by (shown r)) (told_by (shown (polled r s side)))
turned_told r s side (spare, none, is) = record {
  work = refl;
  counts = refl;
  gauges = refl;
  turned = ap turned_in is ∙ map-append values_of r.hand.side.cell.halves (r.hand.side.active ∷ []);
  active = ap (λ (k : HalfKnown). k.active.values) is ∙ none;
}

did_polled : (turned : Bool) (r : Inside) (s : LockedBook) (side : HalfKnown) → LooksAndTurns turned r.hand.side side → DidItsWork (told_by (shown r)) → DidItsWork (told_by (shown (polled r s side)))
did_polled true r s side looks did = run_grows.turn (told_by (shown r)) (told_by (shown (polled r s side))) did (turned_told r s side looks)
did_polled false r s side (word, not, is) did =
    same_work (told_by (shown r)) (told_by (shown (polled r s side))) refl refl refl (ap turned_in is) (ap (λ (k : HalfKnown). k.active.values) is) did

-- the half may have been turned, and the seat was polled
pub kept_polled : (turned : Bool) (r : Inside) (s : LockedBook) (side : HalfKnown) → IsKept r → LooksAndTurns turned r.hand.side side → SeatMoves (known_by r.seat) (known_by s)
    → opened (known_by s) ≤ opened (known_by r.seat) + 0 → IsKept (polled r s side)
kept_polled turned r s side is looks moves few = record {
  did = did_polled turned r s side looks is.did;
  alone = is.alone;
  works = moves.works;
  legal = moves.legal;
  made = λ id. still_added _ _ refl (is.made id) (moves.counters id);
  units = is.units;
  values = (let fewer = polled_count turned r.hand.side side looks in let was = is.values in omega (arith, fewer, was));
  openings = (let was = is.openings in omega (arith, few, was));
  few = is.few;
}

pub shown_polled : (r : Inside) (s : LockedBook) (side : HalfKnown) → lock_of s ≡ lock_of r.seat → shown (polled r s side) ≡ record (shown r) { seat = known_by s; side = side }
shown_polled r s side lock = λ i. record (shown r) {
  of = record { lock = lock i; counters = (shown r).of.counters; gauges = (shown r).of.gauges };
  seat = known_by s;
  side = side;
}

-- its cell is among those of the store
module _ (store : Store) (r : Inside) (self : RecorderKnown) (view_is : shown r ≡ self) (has : HasItsCell store self) where
  there : HasItsCell store (shown r)
  there = subst (λ (k : RecorderKnown). HasItsCell store k) (sym view_is) has

  pub cell_within : r.place < length store.cells.items
  cell_within = within_some store.cells.items r.place (λ (x : TurnCell HalfState). cell_id x ≡ r.hand.side.cell.cell) there

module _ (store : Store) (r : Inside) (self : RecorderKnown) (cell : TurnCell HalfState) (view_is : shown r ≡ self) (has : HasItsCell store self) where
  pub cell_is : slice_get store.cells.items r.place ≡ Some cell → r.hand.side.cell.cell ≡ cell_id cell
  cell_is at = sym (some_at (λ (x : TurnCell HalfState). cell_id x ≡ r.hand.side.cell.cell) (slice_get store.cells.items r.place) cell at (subst (λ (k : RecorderKnown). HasItsCell store k) (sym view_is) has))

-- what a recorder leaves at its end
pub ends_its : (r : Inside) (s : LockedBook) (ended : Ended) → IsKept r → lock_of s ≡ lock_of r.seat → Ends (known_by r.seat) (known_by s) → LeavesHand s r.hand r.work ended → EndsIts (shown r) ended
ends_its r s ended is lock ends leaves =
    let side : side_of ended ≡ record { cell = after_step Leave leaves.word r.hand.side.cell; active = r.hand.side.active } = λ i. record { cell = leaves.left i; active = (leaves.rest i).half } in
    let turned : turned_in (side_of ended) ≡ turned_in r.hand.side = ap turned_in side in
    let grows = one_grows (LogsCall call.End reply.Ended) (known_by r.seat) (known_by s) ends call.End reply.Ended ends.makes (λ (made : List Own). Unit {0}) tt in
    record {
      of = ap store_of leaves.rest ∙ λ i. record { lock = lock i; counters = (shown r).of.counters; gauges = (shown r).of.gauges };
      ends = subst (λ (x : Ended). Ends (known_by r.seat) (known_by x.seat)) (sym leaves.rest) ends;
      word = leaves.word;
      left = side;
      told = λ i. record {
        work = (leaves.rest i).work.items;
        seat = known_by ended.seat;
        counts = worker_part (leaves.rest i).counts;
        gauges = gauge_part (leaves.rest i).gauges;
        turned = turned i;
        active = (leaves.rest i).half.values;
      };
      did = same_work (told_by (shown r)) (told_at_end ended) (ap (λ (x : Ended). x.work.items) leaves.rest) (ap (λ (x : Ended). (worker_part x.counts).steps) leaves.rest)
          (ap (λ (x : Ended). (gauge_part x.gauges).steps) leaves.rest) turned (ap (λ (x : Ended). x.half.values) leaves.rest) is.did;
      made = subst (λ (x : Ended). AddsToMade (known_by x.seat) (worker_part x.counts)) (sym leaves.rest) (λ id. still_added _ _ refl (is.made id) (counters_grow (known_by r.seat) (known_by s) _ grows id));
      alone = ap (λ (x : Ended). (gauge_known x.gauges).taken) leaves.rest ∙ is.alone;
      few = (let count = ap value_count side in let was = is.values in let few = is.few in omega (arith, count, was, few));
    }
