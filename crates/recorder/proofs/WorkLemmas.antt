-- A recorder after a poll and one event.
use Rattle.std.proofs.Common.{◌≡◌, ◌+◌, List, [], ◌∷◌, ◌++◌, ap, sym, ◌∙◌, subst, inl, inr}
use Rattle.std.specs.Prelude.{Bool, true, false}
use Rattle.std.proofs.lemmas.List.{map-append}
use Rattle.stat_defs.specs.declared.events.Event.{Event}
use Rattle.stat_defs.specs.declared.history.Verdict.{Verdict}
use Rattle.seat_history.specs.declared.known.LogKnown.{LogKnown}
use Rattle.book_seat.specs.Following.{HasFollowed}
use Rattle.book_seat.specs.Polling.{AcksIfDue}
use Rattle.book_seat.proofs.Followed.{seat_follows}
use Rattle.half_side.specs.Halves.{HalfKnown, LooksAndTurns}
use Rattle.ledger.specs.Work.{event_told, verdict_told, events_in, verdicts_in}
use Rattle.recorder.specs.declared.polling.Polled.{Polled}
use Rattle.recorder.specs.Knowing.{RecorderKnown}
use Rattle.recorder.specs.Calling.{Applies, PollsOnce}
use Rattle.recorder.specs.Following.{HasFollowedAll, WorksOn}

same_cell : (turned : Bool) (k k' : HalfKnown) → LooksAndTurns turned k k' → k'.cell.cell ≡ k.cell.cell
same_cell true k k' (spare, none, is) = ap (λ (h : HalfKnown). h.cell.cell) is
same_cell false k k' (word, not, is) = ap (λ (h : HalfKnown). h.cell.cell) is

same_number : (k k' : LogKnown) → AcksIfDue k k' → k'.number ≡ k.number
same_number k k' (inl none) = none.1.number
same_number k k' (inr acked) = acked.number

module _ (polled : Polled) (e : Event) (v : Verdict) (old mid new : RecorderKnown) (looks : PollsOnce polled old mid) (did : Applies e v mid new) where
  work_on : new.work ≡ old.work ++ (e, v) ∷ []
  work_on = did.decided.decides.work ∙ ap (λ (r : RecorderKnown). r.work ++ (e, v) ∷ []) looks.rest

  pub works_on : WorksOn e v old new
  works_on = record {
    of = ap (λ (r : RecorderKnown). r.of) did.decided.rest ∙ ap (λ (r : RecorderKnown). r.of) looks.rest;
    place = ap (λ (r : RecorderKnown). r.place) did.decided.rest ∙ ap (λ (r : RecorderKnown). r.place) looks.rest;
    cell = ap (λ (r : RecorderKnown). r.side.cell.cell) did.decided.rest ∙ same_cell polled.turned old.side mid.side looks.half;
    number = did.event.added.number ∙ same_number old.seat mid.seat looks.log.due;
    given = ap (λ (r : RecorderKnown). r.given) did.decided.rest ∙ ap (λ (r : RecorderKnown). r.given + 1) looks.rest;
    work = work_on;
  }

  pub followed_on : HasFollowedAll old → HasFollowedAll new
  followed_on so_far =
      let events : events_in new.work ≡ events_in old.work ++ e ∷ [] = ap events_in work_on ∙ map-append event_told old.work ((e, v) ∷ []) in
      let verdicts : verdicts_in new.work ≡ verdicts_in old.work ++ v ∷ [] = ap verdicts_in work_on ∙ map-append verdict_told old.work ((e, v) ∷ []) in
      subst (λ (es : List Event). HasFollowed new.seat es (verdicts_in new.work)) (sym events)
      (subst (λ (vs : List Verdict). HasFollowed new.seat (events_in old.work ++ e ∷ []) vs) (sym verdicts)
      (seat_follows.event old.seat mid.seat new.seat (events_in old.work) (verdicts_in old.work) e v so_far looks.log.due did.event.added))
