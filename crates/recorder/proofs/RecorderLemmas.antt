-- A recorder after its calls.
use Rattle.std.proofs.Common.{◌≡◌, ℕ, ◌+◌, ◌<◌, List, [], ◌∷◌, ◌++◌, length, map, ap, sym, ◌∙◌, arith}
use Rattle.std.proofs.lemmas.List.Sums.{sum_by_push}
use Rattle.seat_parts.specs.Parts.{total}
use Rattle.stat_defs.specs.Events.{IsLawfulEvent}
use Rattle.stat_defs.specs.declared.events.Event.{Event}
use Rattle.stat_defs.specs.declared.history.Verdict.{Verdict}
use Rattle.book_access.specs.Calling.{known_state}
use Rattle.book_seat.specs.Naming.{NamesOwn}
use Rattle.locked_book.specs.Sharing.{known_by}
use Rattle.metric_words.specs.declared.counter_view.CountStep.{CountStep}
use Rattle.metric_words.specs.declared.gauge_view.GaugeStep.{GaugeStep}
use Rattle.metric_words.specs.Counters.{firsts, seconds}
use Rattle.metric_words.specs.CounterLedger.{worker_known, worker_part}
use Rattle.metric_words.specs.GaugeLedger.{GaugeKnown, gauge_known, gauge_part}
use Rattle.turn_cell.specs.Tokens.{TurnKnown}
use Rattle.merge_round.specs.Halves.{HalfState}
use Rattle.half_side.specs.Halves.{values_of, value_count}
use Rattle.ledger.specs.Work.{Work, units_in, units_by, recordings}
use Rattle.ledger.specs.Gauges.{moves_of}
use Rattle.run_ledger.specs.Told.{WorkerTold, moves_made, values_in}
use Rattle.run_ledger.specs.Accounts.{DidItsWork}
use Rattle.run_ledger.specs.Grows.{Decides}
use Rattle.run_ledger.proofs.Grows.{run_grows}
use Rattle.store_parts.specs.Ids.{StoreIds, ids_of, lock_of}
use Rattle.store_parts.specs.declared.store.Store.{Store}
use Rattle.recorder.specs.declared.limits.TheConstants.{MAX_GIVEN}
use Rattle.recorder.specs.declared.hand.Hand.{Hand}
use Rattle.recorder.specs.declared.recorder.Recorder.TheInside.{Inside}
use Rattle.recorder.specs.Hands.{IsHandOf, HasRoom, Acts}
use Rattle.recorder.specs.Knowing.{told_by}
use Rattle.recorder.specs.Calling.{Decided}
use Rattle.recorder.specs.RecorderKept.{shown, IsKept}
use Rattle.recorder.proofs.HandLemmas.{few_more}
use Rattle.recorder.proofs.UnitLemmas.{units_small, units_named, added_to, still_added}
use Rattle.recorder.proofs.SeatMoves.{SeatMoves}

-- the seats are of the store's banks
pub hand_of : (store : Store) (r : Inside) (of : StoreIds) → of ≡ (shown r).of → of ≡ ids_of store → IsHandOf store r.hand
hand_of store r of shows is = record {
  counters = ap (λ (i : StoreIds). i.counters) (sym shows ∙ is);
  gauges = ap (λ (i : StoreIds). i.gauges) (sym shows ∙ is);
}

pub has_room : (r : Inside) → IsKept r → r.given < MAX_GIVEN → HasRoom r.hand
has_room r is few = record {
  units = λ id. (let units = is.units id in omega (arith, units, few));
  values = (let values = is.values in omega (arith, values, few));
}

pub decides : (r new : Inside) (told : Event × Verdict) → Acts told r.hand new.hand → new.work.items ≡ r.work.items ++ told ∷ []
    → Decides (told_by (shown r)) told (told_by (shown new))
decides r new told acts work = record {
  work = work;
  adds = acts.adds;
  moves = acts.moves;
  records = acts.records;
  turned = ap (λ (k : TurnKnown HalfState). map values_of k.halves) acts.cell;
}

pub decided : (r new : Inside) (told : Event × Verdict) → Acts told r.hand new.hand → new.work.items ≡ r.work.items ++ told ∷ []
    → lock_of new.seat ≡ lock_of r.seat → new.place ≡ r.place → new.given ≡ r.given + 1 → Decided told (shown r) (shown new)
decided r new told acts work lock place given = record {
  decides = decides r new told acts work;
  active = acts.active;
  rest = λ i. record {
    of = record { lock = lock i; counters = (acts.counts i).bank; gauges = (acts.gauges i).bank };
    work = new.work.items;
    seat = known_by new.seat;
    counts = (acts.counts i).own;
    gauges = (acts.gauges i).own;
    side = record { cell = acts.cell i; active = new.hand.side.active };
    place = place i;
    given = given i;
  };
}

-- the same tells, but for the log, make the same of the work
pub same_work : (a b : WorkerTold) → b.work ≡ a.work → b.counts.steps ≡ a.counts.steps → b.gauges.steps ≡ a.gauges.steps → b.turned ≡ a.turned → b.active ≡ a.active
    → DidItsWork a → DidItsWork b
same_work a b work counts gauges turned active did = record {
  adds = λ id. ap (λ (l : List CountStep). seconds id l) counts ∙ (did.adds id ∙ ap (λ (w : Work). units_by id w) (sym work));
  moves = λ id. ap (λ (l : List GaugeStep). moves_made id l) gauges ∙ (did.moves id ∙ ap (λ (w : Work). moves_of id w) (sym work));
  values = (λ i. values_in (turned i ++ active i ∷ [])) ∙ (did.values ∙ ap recordings (sym work));
}

module _ (r new : Inside) (is : IsKept r) (few : r.given < MAX_GIVEN) (given : new.given ≡ r.given + 1) (moves : SeatMoves (known_by r.seat) (known_by new.seat)) where
  -- one event more was decided
  pub kept_after : (e : Event) (v : Verdict) → IsLawfulEvent e → Acts (e, v) r.hand new.hand → new.work.items ≡ r.work.items ++ (e, v) ∷ []
      → NamesOwn (known_state (known_by new.seat)) e v → IsKept new
  kept_after e v lawful acts work names =
      let did = run_grows.event (told_by (shown r)) (e, v) (told_by (shown new)) is.did (decides r new (e, v) acts work) in
      let more : (id : ℕ) → firsts id (worker_part new.hand.counts).steps ≡ firsts id (worker_part r.hand.counts).steps + units_in id (e, v) = λ id.
      (let even = new.hand.counts.even id in
      let after = did.adds id in
      let whole = ap (λ (w : Work). units_by id w) work ∙ sum_by_push (units_in id) r.work.items (e, v) in
      let before = is.did.adds id in
      let was = r.hand.counts.even id in
      omega (arith, even, after, whole, before, was)) in
      record {
        did = did;
        alone = ap (λ (k : GaugeKnown). k.taken) acts.gauges ∙ is.alone;
        works = moves.works;
        legal = moves.legal;
        made = λ id. added_to (firsts id (worker_part r.hand.counts).steps) (units_in id (e, v)) (firsts id (worker_part new.hand.counts).steps) (more id) (units_named (known_state (known_by new.seat)) id e v names) (is.made id) (moves.counters id);
        units = λ id. (let a = more id in let b = is.units id in let c = units_small id e v lawful in omega (arith, a, b, c, given));
        values = (
            let cell = ap (λ (k : TurnKnown HalfState). total (λ (half : HalfState). length half.values) k.halves) acts.cell in
            let active = ap (λ (half : HalfState). length half.values) acts.active in
            let one = few_more e v r.hand.side.active in
            let was = is.values in
            omega (arith, cell, active, one, was, given));
        openings = (let a = moves.openings in let b = is.openings in omega (arith, a, b, given));
        few = omega (arith, few, given);
      }

  -- one event more was cut short
  pub kept_cut : new.hand ≡ r.hand → new.work.items ≡ r.work.items → IsKept new
  kept_cut hand work = record {
    did = same_work (told_by (shown r)) (told_by (shown new)) work (ap (λ (h : Hand). (worker_part h.counts).steps) hand) (ap (λ (h : Hand). (gauge_part h.gauges).steps) hand)
        (ap (λ (h : Hand). map values_of h.side.cell.halves) hand) (ap (λ (h : Hand). h.side.active.values) hand) is.did;
    alone = ap (λ (h : Hand). (gauge_known h.gauges).taken) hand ∙ is.alone;
    works = moves.works;
    legal = moves.legal;
    made = λ id. still_added (firsts id (worker_part r.hand.counts).steps) (firsts id (worker_part new.hand.counts).steps) (ap (λ (h : Hand). firsts id (worker_part h.counts).steps) hand) (is.made id) (moves.counters id);
    units = λ id. (let a = ap (λ (h : Hand). firsts id (worker_part h.counts).steps) hand in let b = is.units id in omega (arith, a, b, given));
    values = (let a = ap (λ (h : Hand). value_count h.side) hand in let b = is.values in omega (arith, a, b, given));
    openings = (let a = moves.openings in let b = is.openings in omega (arith, a, b, given));
    few = omega (arith, few, given);
  }

-- what is shown of a recorder whose event was cut short
pub shown_cut : (r new : Inside) → lock_of new.seat ≡ lock_of r.seat → new.hand ≡ r.hand → new.place ≡ r.place → new.work.items ≡ r.work.items → new.given ≡ r.given + 1
    → shown new ≡ record (shown r) { seat = known_by new.seat; given = r.given + 1 }
shown_cut r new lock hand place work given = λ i. record {
  of = record { lock = lock i; counters = (worker_known (hand i).counts).bank; gauges = (gauge_known (hand i).gauges).bank };
  work = work i;
  seat = known_by new.seat;
  counts = worker_part (hand i).counts;
  gauges = gauge_part (hand i).gauges;
  side = (hand i).side;
  place = place i;
  given = given i;
}
