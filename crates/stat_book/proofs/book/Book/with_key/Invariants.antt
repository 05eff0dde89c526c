use Rattle.std.proofs.Common.{◌≡◌, take}
use Rattle.book_state.specs.Log.{openings}
use Rattle.stat_book.proofs.First.{first_state}
use Rattle.stat_book.proofs.book.Book.with_key.Given as goal

abbrev pub invariant-loop-scope : goal.invariant-loop-scope
invariant-loop-scope l = record {
  opened : l.state ≡ first_state l.config.tags l.workers (take l.scope-index l.config.scopes);
  logged : l.log.items ≡ openings 0 (take l.scope-index l.config.scopes);
}
