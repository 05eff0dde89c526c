use Rattle.std.proofs.Common.{arith}
use Rattle.book_lock.specs.Locked.{in_box, names_in_box}
use Rattle.book_lock.proofs.Keeps.{allows-load-count}
use Rattle.book_lock.proofs.words.load_count.Goals as goal

pub load-requires : goal.load-requires
load-requires g c = (c.requires.table.0, (let t = c.requires.table.1 in omega arith), allows-load-count (in_box g.B.Booked.history) (names_in_box g.B.Booked.changed) _ _ _ _ _ _ c.requires.rests.0 c.requires.rests.1)
