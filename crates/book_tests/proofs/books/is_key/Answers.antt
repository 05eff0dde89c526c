use Rattle.std.proofs.Common.{◌≡◌, ◌∙◌}
use Rattle.stat_defs.proofs.KeyLemmas.{key_eq-is}
use Rattle.book_tests.proofs.books.is_key.Goals as goal

pub returns : goal.returns
returns c = c.eq.ensures ∙ key_eq-is c.args.one.now c.args.other.now
