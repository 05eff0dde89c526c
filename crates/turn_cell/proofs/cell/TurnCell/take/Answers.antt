use Rattle.std.proofs.Common.{rules, ap, ◌∙◌, Some}
use Rattle.turn_cell.specs.declared.view.Party.TheVariants.{Flusher}
use Rattle.turn_cell.proofs.Keeps.{flusher-load-allowed, take-back-allowed, collect-allowed}
use Rattle.turn_cell.proofs.Seats.{loaded-seat, shows-alone, shows-full, holds-first}
use Rattle.turn_cell.proofs.cell.TurnCell.take.Goals as goal

pub load-word-requires : goal.load-word-requires
load-word-requires g c = let f = c.args.f in (search rules, search rules, flusher-load-allowed g.H.Weighed.weighs _ _ f.seat.me f.alone.0 f.alone.1 f.stage)

pub fetch_sub-requires : goal.fetch_sub-requires
fetch_sub-requires g c = let f = c.args.f in let l = c.load-word.ensures.2 in let e = loaded-seat f.seat.me c.load-word.new.seat.me l.0 c.load-word.result f.alone.0 f.alone.1 l.2 in
    (search rules, search rules, take-back-allowed g.H.Weighed.weighs _ _ c.load-word.new.seat.me _ e (ap Flusher (shows-alone l.0 c.load-word.result l.1 c.if-word-eq9.true)))

pub fetch_add-requires : goal.fetch_add-requires
fetch_add-requires g c = let f = c.args.f in let l = c.load-word.ensures.2 in let e = loaded-seat f.seat.me c.load-word.new.seat.me l.0 c.load-word.result f.alone.0 f.alone.1 l.2 in
    (search rules, search rules, collect-allowed g.H.Weighed.weighs _ _ c.load-word.new.seat.me _ e (ap Flusher (shows-full l.0 c.load-word.result l.1 c.if-word-lt3.false c.if-word-eq9.false).0))

pub exchange-requires : goal.exchange-requires
exchange-requires g c = let t = c.fetch_add.ensures.2 in (c.fetch_add.ensures.0 ∙ (c.load-word.ensures.0 ∙ c.requires.cell), (Some t.0, holds-first c.fetch_add.new.seat.me _ (Some t.0) t.2))
