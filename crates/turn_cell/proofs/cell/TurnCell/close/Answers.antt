use Rattle.std.proofs.Common.{rules, ◌∙◌, ap, sym, Some}
use mathlib.Core.Option.{some-injective}
use Rattle.seat_parts.proofs.Cuts.{no-slots}
use Rattle.turn_cell.proofs.Ends.{joins, closes, closes-idle, out-of}
use Rattle.turn_cell.proofs.cell.TurnCell.close.Goals as goal

pub join_seat-requires : goal.join_seat-requires
join_seat-requires g c = (c.requires.cell.0, c.seat_of.ensures.cell ∙ c.requires.cell.1, no-slots _ c.seat_of.ensures.alone.1, search rules, joins g.H.Weighed.weighs _ _ _ _)

pub unwrap-half-requires : goal.unwrap-half-requires
unwrap-half-requires g c = let note = c.args.note in let f = c.seat_of.ensures in
    let t = closes g.H.Weighed.weighs _ note.seat.me.0 c.seat_of.result.me.0 _ _ _ c.word-word.result c.close_with-closed.ensures.values.2 (ap (λ z. z.0) c.join_seat.ensures.2) note.alone.0 f.alone.0 note.stage f.stage c.word-word.ensures in
    let e = some-injective (Some t.0) c.take.result (sym t.1 ∙ c.take.ensures.value) in search rules

pub returns-clause-halves : goal.returns-clause-halves
returns-clause-halves g c = let note = c.args.note in let f = c.seat_of.ensures in
    let t = closes g.H.Weighed.weighs _ note.seat.me.0 c.seat_of.result.me.0 _ _ _ c.word-word.result c.close_with-closed.ensures.values.2 (ap (λ z. z.0) c.join_seat.ensures.2) note.alone.0 f.alone.0 note.stage f.stage c.word-word.ensures in
    (out-of g.H.Weighed.weighs _ _ _ c.word-word.result t.0 c.unwrap-half.result c.take.result _ t.1 c.take.ensures.value c.unwrap-half.ensures f.halves t.2).0

pub returns-clause-spare : goal.returns-clause-spare
returns-clause-spare g c = let note = c.args.note in let f = c.seat_of.ensures in
    let t = closes g.H.Weighed.weighs _ note.seat.me.0 c.seat_of.result.me.0 _ _ _ c.word-word.result c.close_with-closed.ensures.values.2 (ap (λ z. z.0) c.join_seat.ensures.2) note.alone.0 f.alone.0 note.stage f.stage c.word-word.ensures in
    (out-of g.H.Weighed.weighs _ _ _ c.word-word.result t.0 c.unwrap-half.result c.take.result _ t.1 c.take.ensures.value c.unwrap-half.ensures f.halves t.2).1

pub returns-clause-weights : goal.returns-clause-weights
returns-clause-weights g c = let note = c.args.note in let f = c.seat_of.ensures in
    (closes g.H.Weighed.weighs _ note.seat.me.0 c.seat_of.result.me.0 _ _ _ c.word-word.result c.close_with-closed.ensures.values.2 (ap (λ z. z.0) c.join_seat.ensures.2) note.alone.0 f.alone.0 note.stage f.stage c.word-word.ensures).3

pub returns-clause-idle : goal.returns-clause-idle
returns-clause-idle g c idle = let note = c.args.note in let f = c.seat_of.ensures in
    closes-idle g.H.Weighed.weighs _ note.seat.me.0 c.seat_of.result.me.0 _ _ _ c.word-word.result c.close_with-closed.ensures.values.2 (ap (λ z. z.0) c.join_seat.ensures.2) note.alone.0 f.alone.0 note.stage (f.idle idle) c.word-word.ensures
