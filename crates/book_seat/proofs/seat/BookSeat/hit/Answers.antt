use Rattle.std.proofs.Common.{Option, option_map, ap, ◌∙◌}
use Rattle.stat_defs.specs.Keys.{Held}
use Rattle.thread_cache.specs.Keys.{asked}
use Rattle.book_seat.proofs.NamedMetrics.{hit_in_room}
use Rattle.book_seat.proofs.seat.BookSeat.hit.Goals as goal

pub returns-clause-in_room : goal.returns-clause-in_room
returns-clause-in_room g c =
    let key = asked c.args.query.now in
    hit_in_room (g.A.KnowsLog.known c.self.inside.access) c.self.invariant.legal key c.hit.result
    (c.hit.ensures.verdict ∙ ap (λ (o : Option Held). option_map (λ (h : Held). h.verdict) o) (c.self.invariant.held key))
