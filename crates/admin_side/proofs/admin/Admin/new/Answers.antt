use Rattle.std.proofs.Common.{List, ap, map, subst, sym}
use Rattle.stat_defs.specs.declared.history.NameOp.{NameOp}
use Rattle.stat_defs.specs.Changes.{GoesOnLater}
use Rattle.book_lock.proofs.Standing.{later-none}
use Rattle.locked_book.specs.Sharing.{names_by}
use Rattle.admin_side.specs.ReaderKept.{named_by}
use Rattle.admin_side.proofs.Readings.{reader-new}
use Rattle.admin_side.proofs.admin.Admin.new.Goals as goal

pub invariant_of-result : goal.invariant_of-result
invariant_of-result c = record {
  accounts = reader-new _ c.requires.counters c.requires.gauges.0 c.requires.gauges.1 (ap (map named_by) c.new-2.ensures);
  names = subst (λ (l : List NameOp). GoesOnLater l (names_by c.args.seat)) (sym c.new.ensures) (later-none (names_by c.args.seat));
}
