use Rattle.std.proofs.Common.{ap, ◌∙◌}
use Rattle.stat_book.specs.NameChanges.{changes_of}
use Rattle.stat_book.proofs.Changing.{new-none}
use Rattle.store_opening.proofs.book.make_book.Goals as goal

pub new-requires-clause-new : goal.new-requires-clause-new
new-requires-clause-new c = ap changes_of c.in_ok-book.ensures ∙ new-none c.args.config.now c.args.workers
