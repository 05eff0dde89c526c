-- A recorder after a call, refused or not.
use Rattle.std.proofs.Common.{◌≡◌, ℕ, suc, ◌+◌, ◌<◌, ◌≤◌, Some, None, ap, sym, ◌∙◌, subst, arith, inl, inr}
use Rattle.std.specs.Prelude.{Bool, true, false}
use Rattle.atomic_table.specs.Seated.{TableId}
use Rattle.stat_defs.specs.declared.events.Event.{Event}
use Rattle.stat_defs.specs.declared.history.Verdict.{Verdict}
use Rattle.seat_history.specs.declared.known.LogKnown.{LogKnown}
use Rattle.book_seat.specs.Polling.{AcksIfDue}
use Rattle.half_side.specs.Halves.{HalfKnown, LooksAndTurns}
use Rattle.store_parts.specs.Ids.{HasCell}
use Rattle.store_parts.specs.declared.store.Store.{Store}
use Rattle.recorder.specs.declared.limits.TheConstants.{MAX_GIVEN}
use Rattle.recorder.specs.declared.polling.Polled.{Polled}
use Rattle.recorder.specs.Knowing.{RecorderKnown}
use Rattle.recorder.specs.Calling.{Decided, Hits, Applies, IsCutShort, PollsOnce, PollIsCutShort}
use Rattle.recorder.specs.Tied.{IsWorkerOf}
use Rattle.refusal_tests.specs.Standing.{MayBeGiven}

looks : (turned : Bool) (k k' : HalfKnown) → LooksAndTurns turned k k' → k'.cell.cell ≡ k.cell.cell
looks true k k' (spare, none, is) = ap (λ (h : HalfKnown). h.cell.cell) is
looks false k k' (word, not, is) = ap (λ (h : HalfKnown). h.cell.cell) is

acks : (k k' : LogKnown) → AcksIfDue k k' → k'.number ≡ k.number
acks k k' (inl none) = none.1.number
acks k k' (inr acked) = acked.number

module _ (store : Store) (more : ℕ) (old new : RecorderKnown) where
  -- a recorder of the same store, seat and cell is of the same worker
  same_worker : new.of ≡ old.of → new.seat.number ≡ old.seat.number → new.place ≡ old.place
      → new.side.cell.cell ≡ old.side.cell.cell → IsWorkerOf store 1 old → IsWorkerOf store 1 new
  same_worker of number place cell is = record {
    of = of ∙ is.of;
    number = number ∙ is.number;
    place = ap suc place ∙ is.place;
    cell = subst (λ (at : ℕ). HasCell store at new.side.cell.cell) (sym place)
        (subst (λ (id : TableId). HasCell store old.place id) (sym cell) is.cell);
  }

  after_decided : (e : Event) (v : Verdict) → Decided (e, v) old new → new.seat.number ≡ old.seat.number
      → MayBeGiven store (more + 1) old → MayBeGiven store more new
  after_decided e v did number is =
      let given = ap (λ (r : RecorderKnown). r.given) did.rest in
      let few = is.few in
      record {
        worker = same_worker (ap (λ (r : RecorderKnown). r.of) did.rest) number
            (ap (λ (r : RecorderKnown). r.place) did.rest) (ap (λ (r : RecorderKnown). r.side.cell.cell) did.rest)
            is.worker;
        few = omega (arith, few, given);
      }

  pub after_event : (e : Event) (v : Verdict) → Applies e v old new → MayBeGiven store (more + 1) old
      → MayBeGiven store more new
  after_event e v did is = after_decided e v did.decided did.event.added.number is

  -- a hit is one event, where two may be given
  pub after_hit : (e : Event) (v : Verdict) → Hits e (Some v) old new → MayBeGiven store (more + 2) old
      → MayBeGiven store more new
  after_hit e v did is =
      let few = is.few in
      after_decided e v did.0 (ap (λ (k : LogKnown). k.number) did.1)
      (record { worker = is.worker; few = omega (arith, few) })

  pub after_no_hit : (e : Event) → Hits e None old new → MayBeGiven store more old → MayBeGiven store more new
  after_no_hit e same is = subst (λ (r : RecorderKnown). MayBeGiven store more r) (sym same) is

  pub after_refused_event : (e : Event) → IsCutShort e old new → MayBeGiven store (more + 1) old
      → MayBeGiven store more new
  after_refused_event e did is =
      let rest = did.rest in
      let given = ap (λ (r : RecorderKnown). r.given) rest in
      let few = is.few in
      record {
        worker = same_worker (ap (λ (r : RecorderKnown). r.of) rest) did.left.number
            (ap (λ (r : RecorderKnown). r.place) rest) (ap (λ (r : RecorderKnown). r.side.cell.cell) rest) is.worker;
        few = omega (arith, few, given);
      }

  pub after_poll : (polled : Polled) → PollsOnce polled old new → MayBeGiven store more old
      → MayBeGiven store more new
  after_poll polled did is =
      let rest = did.rest in
      let given = ap (λ (r : RecorderKnown). r.given) rest in
      let few = is.few in
      record {
        worker = same_worker (ap (λ (r : RecorderKnown). r.of) rest) (acks old.seat new.seat did.log.due)
            (ap (λ (r : RecorderKnown). r.place) rest) (looks polled.turned old.side new.side did.half) is.worker;
        few = omega (arith, few, given);
      }

  pub after_refused_poll : PollIsCutShort old new → MayBeGiven store more old → MayBeGiven store more new
  after_refused_poll did is =
      let rest = did.rest in
      let given = ap (λ (r : RecorderKnown). r.given) rest in
      let few = is.few in
      record {
        worker = same_worker (ap (λ (r : RecorderKnown). r.of) rest) did.log.left.number
            (ap (λ (r : RecorderKnown). r.place) rest) (looks did.turned old.side new.side did.half) is.worker;
        few = omega (arith, few, given);
      }
