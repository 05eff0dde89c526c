use Rattle.std.proofs.Common.{ℕ, List, [], ◌∷◌, ◌++◌, length, map, ap, sym, ◌∙◌, arith, inl}
use Rattle.seat_parts.specs.Parts.{total}
use Rattle.book_seat.proofs.Followed.{seat_follows}
use Rattle.locked_book.specs.Sharing.{known_by}
use Rattle.merge_round.specs.Halves.{HalfState}
use Rattle.metric_words.specs.declared.counter_view.CountStep.{CountStep}
use Rattle.metric_words.specs.declared.gauge_view.GaugeStep.{GaugeStep}
use Rattle.metric_words.specs.Counters.{firsts, seconds}
use Rattle.half_side.specs.Halves.{values_of}
use Rattle.ledger.specs.Work.{Work, units_by, recordings}
use Rattle.ledger.specs.Gauges.{moves_of}
use Rattle.run_ledger.specs.Told.{moves_made, values_in}
use Rattle.recorder.proofs.SeatMoves.{new_opened}
use Rattle.recorder.proofs.recorder.Recorder.new.Goals as goal

pub invariant_of-result : goal.invariant_of-result
invariant_of-result c =
    let new = c.requires.seat in
    let side = c.requires.side in
    let work = c.new.ensures in
    record {
      did = record {
        adds = λ id. ap (λ (l : List CountStep). seconds id l) c.requires.counts ∙ ap (λ (w : Work). units_by id w) (sym work);
        moves = λ id. ap (λ (l : List GaugeStep). moves_made id l) c.requires.gauges.0 ∙ ap (λ (w : Work). moves_of id w) (sym work);
        values = (λ i. values_in (map values_of (side.0 i) ++ side.1 i ∷ [])) ∙ ap recordings (sym work);
      };
      alone = c.requires.gauges.1;
      works = (seat_follows.begins (known_by c.args.seat) new).0;
      legal = new.legal;
      made = λ id. inl (ap (λ (l : List CountStep). firsts id l) c.requires.counts);
      units = λ id. (let none = ap (λ (l : List CountStep). firsts id l) c.requires.counts in omega (arith, none));
      values = (
          let halves = ap (λ (l : List HalfState). total (λ (half : HalfState). length half.values) l) side.0 in
          let active = ap (λ (l : List (ℕ × ℕ)). length l) side.1 in
          omega (arith, halves, active));
      openings = (let none = new_opened (known_by c.args.seat).number (known_by c.args.seat).known new.others in omega (arith, none));
      few = omega arith;
    }
