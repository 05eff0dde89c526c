use Rattle.std.proofs.Common.{rules}
use Rattle.book_lock.specs.Locked.{in_box, names_in_box}
use Rattle.book_lock.proofs.Keeps.{allows-load, counted-free}
use Rattle.book_lock.proofs.steps.load.Goals as goal

pub load-requires : goal.load-requires
load-requires g c = (search rules, search rules, allows-load (in_box g.B.Booked.history) (names_in_box g.B.Booked.changed) _ _ _ _ _ _ c.requires.rests.0 c.requires.rests.1)

pub returns-clause-told : goal.returns-clause-told
returns-clause-told g c = let t = c.load.ensures.2 in (counted-free c.args.place.now.me c.load.new.seat.me c.load.result c.requires.rests.1 t.0, t.1)
