-- A worker of a store stays its worker, up to its end.
use Rattle.std.proofs.Common.{◌≡◌, ℕ, suc, ap, sym, ◌∙◌, subst}
use Rattle.stat_defs.specs.declared.events.Event.{Event}
use Rattle.stat_defs.specs.declared.history.Verdict.{Verdict}
use Rattle.atomic_table.specs.Seated.{TableId}
use Rattle.seat_history.specs.declared.known.LogKnown.{LogKnown}
use Rattle.book_seat.specs.Following.{HasFollowed}
use Rattle.half_side.specs.Halves.{HalfKnown}
use Rattle.ledger.specs.Work.{Work, events_in, verdicts_in}
use Rattle.run_ledger.specs.Told.{WorkerTold}
use Rattle.store_parts.specs.Ids.{HasCell}
use Rattle.store_parts.specs.declared.store.Store.{Store}
use Rattle.recorder.specs.declared.ended.Ended.{Ended}
use Rattle.recorder.specs.Ending.{EndsIts}
use Rattle.recorder.specs.Following.{HasFollowedAll, WorksOn}
use Rattle.recorder.specs.Knowing.{RecorderKnown}
use Rattle.recorder.specs.Tied.{IsWorkerOf, HasEnded, HasFollowedToEnd}

-- with one event more
pub works_for : (store : Store) (w : ℕ) (e : Event) (v : Verdict) (old new : RecorderKnown) → IsWorkerOf store w old
    → WorksOn e v old new → IsWorkerOf store w new
works_for store w e v old new is on = record {
  of = on.of ∙ is.of;
  number = on.number ∙ is.number;
  place = ap suc on.place ∙ is.place;
  cell = subst (λ (place : ℕ). HasCell store place new.side.cell.cell) (sym on.place)
      (subst (λ (cell : TableId). HasCell store old.place cell) (sym on.cell) is.cell);
}

-- at its end
pub has_ended : (store : Store) (w : ℕ) (r : RecorderKnown) (ended : Ended) → IsWorkerOf store w r → EndsIts r ended
    → HasEnded store w ended
has_ended store w r ended is ends = record {
  of = ends.of ∙ is.of;
  number = ap (λ (k : LogKnown). k.number) ends.ends.leaves ∙ is.number;
  place = r.place;
  at = is.place;
  cell = subst (λ (cell : TableId). HasCell store r.place cell)
      (sym (ap (λ (side : HalfKnown). side.cell.cell) ends.left)) is.cell;
  before = r.seat;
  ends = ends.ends;
  did = ends.did;
  made = ends.made;
  alone = ends.alone;
  few = ends.few;
}

-- where it followed its events up to there
pub has_followed : (r : RecorderKnown) (ended : Ended) → HasFollowedAll r → EndsIts r ended → HasFollowedToEnd ended
has_followed r ended followed ends =
    let work : r.work ≡ ended.work.items = sym (ap (λ (told : WorkerTold). told.work) ends.told) in
    record {
      before = r.seat;
      followed = subst (λ (done : Work). HasFollowed r.seat (events_in done) (verdicts_in done)) work followed;
      ends = ends.ends;
    }
