-- A recorder after a poll, and after an event behind it.
use Rattle.std.proofs.Common.{◌≡◌, ℕ, suc, ◌+◌, Some, None, ap, sym, ◌∙◌, subst, inl, inr}
use Rattle.std.specs.Prelude.{Bool, true, false}
use Rattle.atomic_table.specs.Seated.{TableId}
use Rattle.stat_defs.specs.declared.events.Event.{Event}
use Rattle.stat_defs.specs.declared.history.Verdict.{Verdict}
use Rattle.seat_history.specs.declared.known.LogKnown.{LogKnown}
use Rattle.book_seat.specs.Polling.{AcksIfDue}
use Rattle.half_side.specs.Halves.{HalfKnown, LooksAndTurns}
use Rattle.store_parts.specs.Ids.{HasCell}
use Rattle.store_parts.specs.declared.store.Store.{Store}
use Rattle.recorder.specs.declared.polling.Polled.{Polled}
use Rattle.recorder.specs.Knowing.{RecorderKnown}
use Rattle.recorder.specs.Calling.{Decided, Hits, Applies, PollsOnce}
use Rattle.recorder.specs.Tied.{IsWorkerOf}
use Rattle.shared_tests.specs.Parties.{WorksOn, WorksMore}

same_cell : (turned : Bool) (k k' : HalfKnown) → LooksAndTurns turned k k' → k'.cell.cell ≡ k.cell.cell
same_cell true k k' (spare, none, is) = ap (λ (h : HalfKnown). h.cell.cell) is
same_cell false k k' (word, not, is) = ap (λ (h : HalfKnown). h.cell.cell) is

same_number : (k k' : LogKnown) → AcksIfDue k k' → k'.number ≡ k.number
same_number k k' (inl none) = none.1.number
same_number k k' (inr acked) = acked.number

-- a recorder of the same store, seat and cell is of the same worker
same_worker : (store : Store) (w : ℕ) (old new : RecorderKnown) → new.of ≡ old.of → new.seat.number ≡ old.seat.number
    → new.place ≡ old.place → new.side.cell.cell ≡ old.side.cell.cell → IsWorkerOf store w old → IsWorkerOf store w new
same_worker store w old new of number place cell is = record {
  of = of ∙ is.of;
  number = number ∙ is.number;
  place = ap suc place ∙ is.place;
  cell = subst (λ (at : ℕ). HasCell store at new.side.cell.cell) (sym place)
      (subst (λ (id : TableId). HasCell store old.place id) (sym cell) is.cell);
}

module _ (store : Store) (polled : Polled) (old mid : RecorderKnown) (looks : PollsOnce polled old mid) where
  -- a poll
  pub polled_on : WorksOn store old mid
  polled_on w count at = record {
    worker = same_worker store w old mid (ap (λ (r : RecorderKnown). r.of) looks.rest)
        (same_number old.seat mid.seat looks.log.due) (ap (λ (r : RecorderKnown). r.place) looks.rest)
        (same_cell polled.turned old.side mid.side looks.half) at.worker;
    given = ap (λ (r : RecorderKnown). r.given) looks.rest ∙ at.given;
  }

  module _ (e : Event) (v : Verdict) (new : RecorderKnown) (did : Decided (e, v) mid new)
      (number : new.seat.number ≡ mid.seat.number) where
    -- an event behind the poll
    decided_on : WorksMore store old new
    decided_on w count at = record {
      worker = same_worker store w old new
          (ap (λ (r : RecorderKnown). r.of) did.rest ∙ ap (λ (r : RecorderKnown). r.of) looks.rest)
          (number ∙ same_number old.seat mid.seat looks.log.due)
          (ap (λ (r : RecorderKnown). r.place) did.rest ∙ ap (λ (r : RecorderKnown). r.place) looks.rest)
          (ap (λ (r : RecorderKnown). r.side.cell.cell) did.rest
          ∙ same_cell polled.turned old.side mid.side looks.half) at.worker;
      given = ap (λ (r : RecorderKnown). r.given) did.rest
          ∙ (ap (λ (r : RecorderKnown). r.given + 1) looks.rest ∙ ap (λ (n : ℕ). n + 1) at.given);
    }

  -- by what is held
  pub hit_on : (e : Event) (v : Verdict) (new : RecorderKnown) → Hits e (Some v) mid new → WorksMore store old new
  hit_on e v new did = decided_on e v new did.0 (ap (λ (k : LogKnown). k.number) did.1)

  -- by the book, where nothing was held
  pub applied_on : (e : Event) (v : Verdict) (then new : RecorderKnown) → Hits e None mid then → Applies e v then new
      → WorksMore store old new
  applied_on e v then new same did =
      let did_mid : Applies e v mid new = subst (λ (r : RecorderKnown). Applies e v r new) same did in
      decided_on e v new did_mid.decided did_mid.event.added.number
