use Rattle.std.proofs.Common.{ap, ◌∙◌}
use Rattle.stat_book.specs.NameChanges.{changes_of}
use Rattle.stat_book.proofs.Changing.{new-none}
use Rattle.thread_tests.proofs.locked_books.book_of.Goals as goal

pub returns-clause-new : goal.returns-clause-new
returns-clause-new c = ap changes_of c.in_ok-new.ensures ∙ new-none c.args.config.now 2
