use Rattle.std.proofs.Common.{rules, Some}
use Rattle.turn_cell.specs.Turned.{own_turn}
use Rattle.turn_cell.proofs.Fits.{holder}
use Rattle.turn_cell.proofs.Keeps.{return-allowed}
use Rattle.turn_cell.proofs.Seats.{held-one, holds-first, exchanged}
use Rattle.turn_cell.proofs.cell.TurnCell.give_back.Goals as goal

pub exchange-requires : goal.exchange-requires
exchange-requires g c = let f = c.args.f in let h = held-one f.seat.me f.alone.0 f.alone.1 f.alone.2 in
    (c.requires.cell, (h.0, holds-first f.seat.me _ h.0 h.1))

pub fetch_sub-requires : goal.fetch_sub-requires
fetch_sub-requires g c = let f = c.args.f in let h = held-one f.seat.me f.alone.0 f.alone.1 f.alone.2 in (
  search rules,
  search rules,
  return-allowed g.H.Weighed.weighs _ _ c.exchange.new.seat.me (own_turn f.seat.me.0) c.args.half (exchanged f.seat.me c.exchange.new.seat.me _ h.0 (Some c.args.half) h.1 c.exchange.ensures.3)
      (holder (own_turn f.seat.me.0).party f.stage) c.requires.weight,
)
