use Rattle.std.proofs.Common.{rules, ap, refl, ◌∙◌, Some, length}
use Rattle.turn_cell.specs.Turned.{own_turn, is_there, can_turn}
use Rattle.turn_cell.specs.Tokens.{known_of}
use Rattle.turn_cell.proofs.Keeps.{begin-allowed, give-allowed}
use Rattle.turn_cell.proofs.Seats.{begun-seat, turned-seat, holds-first, exchanged, heavier}
use Rattle.turn_cell.proofs.cell.TurnCell.turn.Goals as goal

pub store-requires : goal.store-requires
store-requires g c = let w = c.args.w.now in (search rules, search rules, begin-allowed g.H.Weighed.weighs _ _ w.seat.me 2 w.alone.0 w.alone.1 c.requires.asked)

pub exchange-requires : goal.exchange-requires
exchange-requires g c = let w = c.args.w.now in let b = c.store.ensures.2 in
    (c.store.ensures.0 ∙ c.requires.cell, (Some b.0, holds-first c.store.new.seat.me _ (Some b.0) b.2))

pub store-requires-2 : goal.store-requires-2
store-requires-2 g c = let w = c.args.w.now in let b = c.store.ensures.2 in let e = begun-seat w.seat.me c.store.new.seat.me b.0 w.alone.0 b.2 in (
  search rules,
  search rules,
  give-allowed g.H.Weighed.weighs _ _ c.exchange.new.seat.me 3 c.args.half _ (exchanged c.store.new.seat.me c.exchange.new.seat.me _ (Some b.0) (Some c.args.half) e c.exchange.ensures.3) refl
      (heavier g.H.Weighed.weighs (own_turn w.seat.me.0).halves c.args.half c.requires.weights),
)

pub invariant_of-w : goal.invariant_of-w
invariant_of-w g c =
    let w = c.args.w.now in let b = c.store.ensures.2 in
    let t = turned-seat w.seat.me c.store.new.seat.me c.exchange.new.seat.me c.store-2.new.seat.me b.0 c.args.half (begun-seat w.seat.me c.store.new.seat.me b.0 w.alone.0 b.2) c.exchange.ensures.3 c.store-2.ensures.2 in
    record { alone = (ap (λ z. length z.0.parts) t, ap (λ z. length z.1) t); stage = ap (λ z. is_there (own_turn z.0).party) t }

pub returns-clause-turned : goal.returns-clause-turned
returns-clause-turned g c =
    let w = c.args.w.now in let b = c.store.ensures.2 in
    let t = turned-seat w.seat.me c.store.new.seat.me c.exchange.new.seat.me c.store-2.new.seat.me b.0 c.args.half (begun-seat w.seat.me c.store.new.seat.me b.0 w.alone.0 b.2) c.exchange.ensures.3 c.store-2.ensures.2 in
    let cell = c.store-2.ensures.0 ∙ (c.exchange.ensures.0 ∙ c.store.ensures.0) in λ i. known_of (cell i) (own_turn (t i).0)

pub returns-clause-may_turn : goal.returns-clause-may_turn
returns-clause-may_turn g c =
    let w = c.args.w.now in let b = c.store.ensures.2 in
    let t = turned-seat w.seat.me c.store.new.seat.me c.exchange.new.seat.me c.store-2.new.seat.me b.0 c.args.half (begun-seat w.seat.me c.store.new.seat.me b.0 w.alone.0 b.2) c.exchange.ensures.3 c.store-2.ensures.2 in
    ap (λ z. can_turn (own_turn z.0).party) t
